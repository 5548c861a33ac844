-- What a run uses of each limit, as far as it has come, and the least limits within which a job returns.
use Rattle.std.specs.Prelude.{◌≡◌, ℕ, ◌≤◌, Option, Some, None}
use Rattle.vcode_base.specs.declared.limits.Limits.{Limits}
use Rattle.job_steps.specs.LeastLimits.{IsReturn, RunAlike, calls_in, cells_in, most_until, with_limits}
use Rattle.job_steps.specs.Runs.{executed_count_in, outcome}
use Rattle.job_steps.specs.States.{Task}
use Rattle.job_steps.specs.Steps.{Ending, Progress}
use Rattle.job_profile.specs.Moves.{IsOnRun}

-- the most of such a number before the first instruction, and after each of those that were executed so far
abbrev pub most_so_far : (Progress → ℕ) → Task → Progress → ℕ
most_so_far f task p = most_until f task (executed_count_in p)

-- a run here has this many entries and calls at most
pub record AreUses (task : Task) (p : Progress) (cells calls : ℕ) : Type 0 where
  pub on_run : IsOnRun task p
  pub cells_are : cells ≡ most_so_far cells_in task p
  pub calls_are : calls ≡ most_so_far calls_in task p

-- ---- the least limits

-- it isn't collected that the job returned
abbrev pub HasNotReturned : Option Ending → Type 0
HasNotReturned None = Unit {0}
HasNotReturned (Some ending) = IsReturn ending → ⊥

-- none of these limits is less
pub record AreNoLess (limits least : Limits) : Type 0 where
  pub words : least.words ≤ limits.words
  pub cells : least.cells ≤ limits.cells
  pub calls : least.calls ≤ limits.calls
  pub budget : least.budget ≤ limits.budget

-- The job returns within limits exactly if none is less than these. Its run is the same then.
abbrev pub AreLeast : Task → Limits → Type 0
AreLeast task least =
    (limits : Limits) →
    (AreNoLess limits least → RunAlike task (with_limits limits task))
    × (IsReturn (outcome (with_limits limits task)) → AreNoLess limits least)
