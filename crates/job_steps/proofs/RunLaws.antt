-- Whole runs of jobs.
use Rattle.std.proofs.Common.{◌∙◌, refl, ◌≡◌, ℕ, ◌+◌, ◌≤◌, List, sym, ap, arith, zero, suc}
use Rattle.std.proofs.Math.Nat.{max-le}
use Rattle.std.proofs.Math.Decide.{le_ind}
use Rattle.vcode_base.specs.declared.outcome.Outcome.{Outcome}
use Rattle.vcode_base.specs.Laws.{ResultsHaveNeededLengths}
use Rattle.job_steps.specs.Runs.{progress_from, state_after, whole_run, outcome, executed_count, peak}
use Rattle.job_steps.specs.States.{Vector, Task, State}
use Rattle.job_steps.specs.Steps.{Progress, Running, Over, Stuck, next_progress}
use Rattle.job_steps.proofs.Bounds.{bounded, over_running, fits_at}
use Rattle.job_steps.proofs.Progresses.{goes}

-- what holds of the first state, and of what each state leads to, holds after each number of steps
pub by_runs : (task : Task) (P : Progress → Type 0) → P (state_after task 0) →
    ((n : ℕ) (s : State) → state_after task n ≡ Running s → P (next_progress task s)) → (n : ℕ) →
    P (state_after task n)
by_runs task P first step zero = first
by_runs task P first step (suc n) = from (state_after task n) refl (by_runs task P first step n)
  where
    from : (p : Progress) → state_after task n ≡ p → P p → P (progress_from task p)
    from (Running s) is h = step n s is
    from p is h = h

-- a progress that leads to itself stays
stays : (task : Task) (p : Progress) → progress_from task p ≡ p → (n later : ℕ) → state_after task n ≡ p →
    state_after task (n + later) ≡ p
stays task p same n later e =
    le_ind {n = n} (λ i. state_after task i ≡ p) e (λ i h k. ap (progress_from task) k ∙ same) (n + later) (omega arith)

pub over_stays : (task : Task) (n later : ℕ) (ending : Outcome (List Vector)) (x p : ℕ) →
    state_after task n ≡ Over ending x p → state_after task (n + later) ≡ Over ending x p
over_stays task n later ending x p = stays task (Over ending x p) refl n later

pub running_stuck : (s : State) → Running s ≡ Stuck → ⊥
running_stuck s e = cc

-- ---- ends

-- each end has counts within the limits
pub record AreWithin (task : Task) (x p : ℕ) : Type 0 where
  pub budget : x ≤ task.limits.budget
  pub words : p ≤ task.limits.words

pub within : ResultsHaveNeededLengths → (task : Task) (n : ℕ) (ending : Outcome (List Vector)) (x p : ℕ) →
    state_after task n ≡ Over ending x p → AreWithin task x p
within law task n ending x p =
    by_runs task (λ q. q ≡ Over ending x p → AreWithin task x p) (λ e. absurd (over_running ending x p _ (sym e)))
    (λ m s is e. let b = bounded law task m s is in let h = goes task s in
    grind (arith, fits_at, max-le, over_running)) n

-- ---- the end is the job's own

own_by : ResultsHaveNeededLengths → (task : Task) (n : ℕ) (ending : Outcome (List Vector)) (x p : ℕ) →
    state_after task n ≡ Over ending x p → (q : Progress) → whole_run task ≡ q → whole_run task ≡ Over ending x p
unfolding whole_run
own_by law task n ending x p e (Running s) is =
    absurd (let b = bounded law task (task.limits.budget + 1) s is in omega (arith, b.budget))
own_by law task n ending x p e q is =
    let last : ℕ = task.limits.budget + 1 in
    let same : n + last ≡ last + n = omega arith in
    cc (over_stays task n last ending x p e, stays task q refl last n is, ap (state_after task) same)

pub end_is_own : ResultsHaveNeededLengths → (task : Task) (n : ℕ) (ending : Outcome (List Vector)) (x p : ℕ) →
    state_after task n ≡ Over ending x p → (outcome task ≡ ending) × (executed_count task ≡ x) × (peak task ≡ p)
unfolding outcome executed_count peak
end_is_own law task n ending x p e = grind (arith, own_by)
