-- What a run uses of each limit, and the least limits within which a job returns.
use Rattle.std.specs.Prelude.{◌≡◌, ℕ, zero, suc, ◌≤◌, max, List, length}
use Rattle.vcode_base.specs.declared.limits.Limits.{Limits}
use Rattle.vcode_base.specs.declared.outcome.Outcome.{Outcome}
use Rattle.vcode_base.specs.declared.outcome.Outcome.TheVariants.{Returned}
use Rattle.job_steps.specs.EventLaws.{IsVerified}
use Rattle.job_steps.specs.Runs.{state_after, outcome, executed_count, peak}
use Rattle.job_steps.specs.States.{Vector, Task}
use Rattle.job_steps.specs.Steps.{Progress, Running, Over, Stuck}

-- how many entries the stack of a job has that runs
abbrev pub cells_in : Progress → ℕ
cells_in (Running s) = length s.stack
cells_in (Over ending executed peak) = 0
cells_in Stuck = 0

-- how many calls are active
abbrev pub calls_in : Progress → ℕ
calls_in (Running s) = length s.calls
calls_in (Over ending executed peak) = 0
calls_in Stuck = 0

-- the most of such a number before the first step, and after each of the first n steps
abbrev pub most_until : (Progress → ℕ) → Task → ℕ → ℕ
most_until f task zero = f (state_after task zero)
most_until f task (suc n) = max (most_until f task n) (f (state_after task (suc n)))

-- the most entries that the job has
unfoldable pub most_cells : Task → ℕ
most_cells task = most_until cells_in task (executed_count task)

-- the most calls that it has active
unfoldable pub most_calls : Task → ℕ
most_calls task = most_until calls_in task (executed_count task)

-- limits that are at least what the job uses
pub record AreEnough (task : Task) (limits : Limits) : Type 0 where
  pub words : peak task ≤ limits.words
  pub cells : most_cells task ≤ limits.cells
  pub calls : most_calls task ≤ limits.calls
  pub budget : executed_count task ≤ limits.budget

-- the job with other limits
abbrev pub with_limits : Limits → Task → Task
with_limits limits task = record {
  name = task.name;
  verified = task.verified;
  limits = limits;
  rule = task.rule;
}

-- two jobs are in the same state after each number of steps, and use the same
pub record RunAlike (old new : Task) : Type 0 where
  pub states : (n : ℕ) → state_after new n ≡ state_after old n
  pub outcome_is : outcome new ≡ outcome old
  pub executed_is : executed_count new ≡ executed_count old
  pub peak_is : peak new ≡ peak old
  pub cells_are : most_cells new ≡ most_cells old
  pub calls_are : most_calls new ≡ most_calls old

abbrev pub IsReturn : Outcome (List Vector) → Type 0
IsReturn ending = (values : List Vector) × (ending ≡ Returned values)

-- A verified job that returns does so within other limits exactly if they are at least what it uses. Its run is the
-- same then.
abbrev pub UsedAreLeast : Type 0
UsedAreLeast =
    (task : Task) → IsVerified task → IsReturn (outcome task) → (limits : Limits) →
    (AreEnough task limits → RunAlike task (with_limits limits task))
    × (IsReturn (outcome (with_limits limits task)) → AreEnough task limits)
