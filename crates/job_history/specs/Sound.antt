-- When what a history keeps is that of its run.
use Rattle.std.specs.Prelude.{◌≡◌, ℕ, ℤ, ◌+◌, ◌<◌, ◌≤◌, List, [], length, reverse}
use Rattle.job_steps.specs.Reached.{IsVerifiedBySome}
use Rattle.job_steps.specs.Runs.{progress_from, state_after}
use Rattle.job_steps.specs.States.{Task}
use Rattle.job_profile.specs.Walks.{HasCome, RunState, ending_at, ending_of, lists_in, progress_of}
use Rattle.job_history.specs.Kept.{AreKept, IsUpTo, KeptState}
use Rattle.job_history.specs.Places.{AllGoOn, IsLater, Place}

-- the state of a number
abbrev pub place_by : RunState → ℕ → Place
place_by run n = record { task = run.task; at = n }

-- A run of a verified job is at the state of this number, and none before it is over.
pub record IsAt (run : RunState) (n : ℕ) : Type 0 where
  pub come : progress_of run ≡ state_after run.task n
  pub passed : AllGoOn run.task n
  pub verified : IsVerifiedBySome run.task.verified
  pub ended : ending_of run ≡ ending_at (progress_of run)

-- A state is the one at which a run is, or one of those before it that are kept.
pub record HasState (first : ℕ) (states : List KeptState) (at end : ℕ) : Type 0 where
  pub within : at ≤ end
  pub first_is : at < end → first ≤ at
  pub last_is : at < end → first + length states ≡ end

pub record IsSound (run : RunState) (end first : ℕ) (states : List KeptState) (at : ℕ) : Type 0 where
  pub run_at : IsAt run end
  pub are_kept : AreKept run.task first states
  pub has : HasState first states at end

-- a run is at its first state
pub record IsFirst (run : RunState) (n : ℕ) : Type 0 where
  pub run_at : IsAt run n
  pub at_is : n ≡ 0
  pub lists : lists_in (progress_of run) ≡ []

-- a run has executed an instruction, and its ending is collected if it is over
pub record Advances (old new : RunState) : Type 0 where
  pub come : HasCome old.task (progress_from old.task (progress_of old)) new
  pub ended : ending_of new ≡ ending_at (progress_of new)

-- a run has come from the state of one number to that of another
pub record HasGone (count : ℕ) (old : RunState) (from : ℕ) (new : RunState) (to : ℕ) : Type 0 where
  pub run_at : IsAt new to
  pub later : IsLater count (place_by old from) (place_by new to)

-- a run is at the state of a number, and these are the vectors of its entries, from the bottom up
pub record Mirrors (run : RunState) (at : ℕ) (entries : List (List ℤ)) : Type 0 where
  pub run_at : IsAt run at
  pub lists : reverse entries ≡ lists_in (progress_of run)

-- so is a run of this job at this state
pub record IsPassed (task : Task) (n : ℕ) (run : RunState) (at : ℕ) (entries : List (List ℤ)) : Type 0 where
  pub mirrors : Mirrors run at entries
  pub at_is : at ≡ n
  pub task_is : run.task ≡ task

-- a run has come to this state of this job, and the last states before it are kept
pub record IsFilled (task : Task) (n : ℕ) (run : RunState) (at first : ℕ) (states : List KeptState) : Type 0 where
  pub run_at : IsAt run at
  pub at_is : at ≡ n
  pub task_is : run.task ≡ task
  pub kept : AreKept task first states
  pub up_to : IsUpTo n first states
