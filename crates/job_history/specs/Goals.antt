-- What is sought in a run, and where a search ends.
use Rattle.std.specs.Prelude.{◌≡◌, ℕ, ◌+◌, ◌<◌, ◌≤◌, nat_le, Bool, true, false, ◌&&◌, ◌||◌, List, Option, Some, None}
use Rattle.std.specs.List.{list_any}
use Rattle.job_steps.specs.LeastLimits.{calls_in}
use Rattle.job_steps.specs.Runs.{state_after}
use Rattle.job_steps.specs.States.{Task}
use Rattle.job_steps.specs.Steps.{Progress}
use Rattle.job_profile.specs.declared.stop.Stop.{Stop}
use Rattle.job_profile.specs.Stops.{holds_in}
use Rattle.job_profile.specs.Walks.{goes_on}
use Rattle.job_history.specs.declared.goal.Found.{Found}
use Rattle.job_history.specs.declared.goal.Found.TheVariants.{Here, NotYet, Nowhere}
use Rattle.job_history.specs.Places.{Place, state_at}

-- the job goes on, and one of these holds, or no more calls than this are active
abbrev pub meets : List (Stop (List ℕ)) → ℕ → Progress → Bool
meets stops calls p = goes_on p && (nat_le (calls_in p) calls || list_any (λ stop. holds_in stop p) stops)

-- it isn't met at a state after `from` and before `to`
pub record IsMissed (stops : List (Stop (List ℕ))) (calls : ℕ) (task : Task) (from to : ℕ) : Type 0 where
  pub each : (n : ℕ) → from ≤ n → n < to → meets stops calls (state_after task n) ≡ false

-- A search forward ends at the first later state at which it is met, or after `most` states, or at the end.
pub record EndsHere (stops : List (Stop (List ℕ))) (calls most : ℕ) (old new : Place) : Type 0 where
  pub task_is : new.task ≡ old.task
  pub later : old.at < new.at
  pub within : new.at ≤ old.at + most
  pub met : meets stops calls (state_at new) ≡ true
  pub missed : IsMissed stops calls old.task (old.at + 1) new.at

pub record EndsNotYet (stops : List (Stop (List ℕ))) (calls most : ℕ) (old new : Place) : Type 0 where
  pub task_is : new.task ≡ old.task
  pub at_most : new.at ≡ old.at + most
  pub on : goes_on (state_at new) ≡ true
  pub missed : IsMissed stops calls old.task (old.at + 1) (new.at + 1)

pub record EndsNowhere (stops : List (Stop (List ℕ))) (calls most : ℕ) (old new : Place) : Type 0 where
  pub task_is : new.task ≡ old.task
  pub no_less : old.at ≤ new.at
  pub within : new.at ≤ old.at + most
  pub over : goes_on (state_at new) ≡ false
  pub missed : IsMissed stops calls old.task (old.at + 1) (new.at + 1)

abbrev pub EndsNext : Found → List (Stop (List ℕ)) → ℕ → ℕ → (old new : Place) → Type 0
EndsNext Here stops calls most old new = EndsHere stops calls most old new
EndsNext NotYet stops calls most old new = EndsNotYet stops calls most old new
EndsNext Nowhere stops calls most old new = EndsNowhere stops calls most old new

-- a search back ends at the last earlier state at which it is met
pub record EndsBefore (stops : List (Stop (List ℕ))) (calls : ℕ) (old new : Place) : Type 0 where
  pub task_is : new.task ≡ old.task
  pub earlier : new.at < old.at
  pub met : meets stops calls (state_at new) ≡ true
  pub missed : IsMissed stops calls old.task (new.at + 1) old.at

-- or, if there is none, at the first
pub record EndsAtFirst (stops : List (Stop (List ℕ))) (calls : ℕ) (old new : Place) : Type 0 where
  pub task_is : new.task ≡ old.task
  pub first : new.at ≡ 0
  pub missed : IsMissed stops calls old.task 0 old.at

abbrev pub EndsBack : Found → List (Stop (List ℕ)) → ℕ → (old new : Place) → Type 0
EndsBack Here stops calls old new = EndsBefore stops calls old new
EndsBack NotYet stops calls old new = ⊥
EndsBack Nowhere stops calls old new = EndsAtFirst stops calls old new

-- of the states that are kept it is met at this one, and at none after it; or at none
abbrev pub EndsKept : Bool → List (Stop (List ℕ)) → ℕ → (old new : Place) → Type 0
EndsKept true stops calls old new = EndsBefore stops calls old new
EndsKept false stops calls old new =
    (new.task ≡ old.task) × (new.at ≤ old.at) × IsMissed stops calls old.task new.at old.at

-- of the states before this one it is met at that one last, or at none
pub record IsLastMet (stops : List (Stop (List ℕ))) (calls : ℕ) (task : Task) (end n : ℕ) : Type 0 where
  pub earlier : n < end
  pub met : meets stops calls (state_after task n) ≡ true
  pub missed : IsMissed stops calls task (n + 1) end

abbrev pub IsLast : Option ℕ → List (Stop (List ℕ)) → ℕ → Task → ℕ → Type 0
IsLast None stops calls task end = IsMissed stops calls task 0 end
IsLast (Some n) stops calls task end = IsLastMet stops calls task end n
