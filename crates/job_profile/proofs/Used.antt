-- What a step makes of the most that was used, and the least limits.
use Rattle.std.proofs.Common.{◌≡◌, ℕ, zero, suc, ◌≤◌, Some, refl, sym, subst}
use Rattle.std.proofs.Common.{arith}
use Rattle.std.specs.Prelude.{◌⊎◌, max}
use Rattle.vcode_base.specs.declared.limits.Limits.{Limits}
use Rattle.job_steps.specs.LeastLimits.{AreEnough, IsReturn, UsedAreLeast, calls_in, cells_in, most_calls}
use Rattle.job_steps.specs.LeastLimits.{most_cells, most_until}
use Rattle.job_steps.specs.Reached.{IsVerifiedBySome, Reaches}
use Rattle.job_steps.specs.Runs.{executed_count, executed_count_in, outcome, peak, peak_in, progress_from, state_after}
use Rattle.job_steps.specs.Standings.{Standing, outcome_at}
use Rattle.job_steps.specs.States.{Task}
use Rattle.job_steps.specs.Steps.{Ending, Progress, Over}
use Rattle.job_profile.specs.Moves.{HasExecuted, HasStayed, StepsMove}
use Rattle.job_profile.specs.Walks.{HasCome, RunState, ending_of, progress_at, progress_of}
use Rattle.job_profile.specs.Used.{AreLeast, AreUses, most_so_far}

-- ---- a step

-- it is 0 of a run that is over
abbrev IsOfRunning : (Progress → ℕ) → Type 0
IsOfRunning f = (ending : Ending) (executed most : ℕ) → f (Over ending executed most) ≡ 0

most_after : (task : Task) (p q : Progress) → HasStayed p q ⊎ HasExecuted task p q → (f : Progress → ℕ) →
    IsOfRunning f → most_so_far f task q ≡ max (most_so_far f task p) (f q)
most_after task p q moved f none = grind arith

-- ---- what a run uses

pub first_uses : (task : Task) (cells calls : ℕ) → IsVerifiedBySome task.verified →
    cells ≡ cells_in (state_after task 0) → calls ≡ calls_in (state_after task 0) →
    AreUses task (state_after task 0) cells calls
first_uses task cells calls verified c k = grind arith

pub uses_after : StepsMove → (old : RunState) {new : RunState} {cells calls later_cells later_calls : ℕ} →
    AreUses old.task (progress_of old) cells calls →
    HasCome old.task (progress_from old.task (progress_of old)) new →
    later_cells ≡ max cells (cells_in (progress_of new)) → later_calls ≡ max calls (calls_in (progress_of new)) →
    AreUses new.task (progress_of new) later_cells later_calls
uses_after law old {new} {cells} {calls} {later_cells} {later_calls} h come c k =
    let moved = law old.task (progress_of old) (progress_of new) h.on_run come.progress_is in
    let after = most_after old.task (progress_of old) (progress_of new) moved.moves in
    grind arith

-- ---- a job that returned

-- what a run that returned has used
pub record Returned (task : Task) (p : Progress) (cells calls : ℕ) : Type 0 where
  pub words_are : peak_in p ≡ peak task
  pub cells_are : cells ≡ most_cells task
  pub calls_are : calls ≡ most_calls task
  pub budget_is : executed_count_in p ≡ executed_count task
  pub back : IsReturn (outcome task)
  pub enough : AreEnough task task.limits
  pub some_call : 1 ≤ calls

over_by : (task : Task) (standing : Standing) (ending : Ending) → outcome_at task standing ≡ Some ending →
    (outcome task ≡ ending) × (progress_at task standing ≡ Over (outcome task) (executed_count task) (peak task))
over_by task standing ending e = grind arith

most_first : (task : Task) (n : ℕ) → calls_in (state_after task 0) ≤ most_until calls_in task n
most_first task zero = omega arith
most_first task (suc n) = omega (arith, most_first task n)

pub returned_by : UsedAreLeast → Reaches → (r : RunState) {cells calls : ℕ} {ending : Ending} →
    AreUses r.task (progress_of r) cells calls → ending_of r ≡ Some ending → IsReturn ending →
    Returned r.task (progress_of r) cells calls
unfolding most_cells most_calls
returned_by law reaches r h ended is =
    let over = over_by r.task r.standing _ ended in
    let back = subst IsReturn (sym over.0) is in
    let v = h.on_run.verified in
    let first = (reaches v.0 r.task v.1 0 _ refl).active in
    let enough = (law r.task v back r.task.limits).1 back in
    grind (arith, most_first)

pub are_least : UsedAreLeast → (r : RunState) {now : RunState} {cells calls : ℕ} {least : Limits} → r ≡ now →
    IsVerifiedBySome r.task.verified → Returned r.task (progress_of r) cells calls →
    least.words ≡ peak_in (progress_of r) →
    least.cells ≡ max cells 1 → least.calls ≡ calls → least.budget ≡ executed_count_in (progress_of r) →
    AreLeast now.task least
are_least law r same verified back words most_cells_are most_calls_are budget = rw (← same) (λ limits.
    let used = law r.task verified back.back limits in
    grind (arith, limits.cells_in_range))
