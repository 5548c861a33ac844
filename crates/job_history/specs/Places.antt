-- The states of the run of a job by their numbers, and which of them a move leads to.
use Rattle.std.specs.Prelude.{◌≡◌, ℕ, ◌+◌, ◌<◌, ◌≤◌, true, false, refl}
use Rattle.std.specs.Coded.{Coded, code_by, coded_ℕ, coded×}
use Rattle.vcode_base.specs.declared.rule.Rule.{Rule}
use Rattle.job_steps.specs.Runs.{state_after}
use Rattle.job_steps.specs.States.{JobValue, Task, ruled}
use Rattle.job_steps.specs.Steps.{Progress}
use Rattle.job_profile.specs.Walks.{goes_on}

-- a state of the run of a job: the one with `at` states before it
pub record Place : Type 0 where
  pub task : Task
  pub at : ℕ

-- what there is at it
abbrev pub state_at : Place → Progress
state_at place = state_after place.task place.at

-- nothing is executed
abbrev pub first_place : Task → Place
first_place task = record { task = task; at = 0 }

-- the state of the same job that is this many before, or the first
abbrev pub moved_to : Place → ℕ → Place
moved_to place n = record { task = place.task; at = n }

-- each state before it goes on
pub record AllGoOn (task : Task) (n : ℕ) : Type 0 where
  pub each : (m : ℕ) → m < n → goes_on (state_after task m) ≡ true

-- the state of the same job that is `count` later, or the end if that comes before
pub record IsLater (count : ℕ) (old new : Place) : Type 0 where
  pub task_is : new.task ≡ old.task
  pub no_less : old.at ≤ new.at
  pub no_more : new.at ≤ old.at + count
  pub passed : AllGoOn old.task new.at
  pub ends : new.at < old.at + count → goes_on (state_at new) ≡ false

-- the parts that identify a place
abbrev pub place_code : Coded Rule → Coded JobValue → Coded Place
place_code rule job =
    code_by (Rule × (JobValue × ℕ)) (coded× rule (coded× job coded_ℕ))
    (λ p. (
      p.task.rule,
      (record { name = p.task.name; verified = p.task.verified; limits = p.task.limits }, p.at),
    ))
    (λ p. record { task = ruled p.0 p.1.0; at = p.1.1 }) (λ _. refl)
