-- When what a profile keeps is that of its run.
use Rattle.std.specs.Prelude.{◌≡◌, ℕ, ◌≤◌, List, slice_index, sum}
use Rattle.job_steps.specs.Runs.{state_after, executed_count_in, peak_in}
use Rattle.job_steps.specs.States.{Task}
use Rattle.job_steps.specs.Steps.{Progress}
use Rattle.job_profile.specs.declared.coming.Coming.{Coming}
use Rattle.job_profile.specs.declared.strip.Column.{Column}
use Rattle.job_profile.specs.Columns.{AreFine, column_at, highest}
use Rattle.job_profile.specs.Comings.{coming_in}
use Rattle.job_profile.specs.Counts.{IsFirstPeak, times_until}
use Rattle.job_profile.specs.Moves.{IsOnRun}
use Rattle.job_profile.specs.Strips.{IsStrip}

-- the same counts; one that isn't there is 0
pub record CountAlike (old new : List ℕ) : Type 0 where
  pub each : (place : ℕ) → slice_index new place ≡ slice_index old place
  pub total : sum new ≡ sum old

-- The first n instructions of a job lead to this peak, which none before exceeds. The times are those of its lines, the
-- peak was first reached after `after` instructions, and the columns are those of the instructions.
pub record IsCounted (task : Task) (n peak : ℕ) (times : List ℕ) (after : ℕ) (columns : List Column) (each room : ℕ) :
    Type 0 where
  pub rises : (m : ℕ) → m ≤ n → peak_in (state_after task m) ≤ peak
  pub times_are : (line : ℕ) → slice_index times line ≡ times_until task line n
  pub total : sum times ≡ n
  pub first : IsFirstPeak task peak after
  pub strip : IsStrip (column_at task) n columns each room
  pub fine : AreFine n each
  pub highest_is : highest columns ≡ peak

-- The instructions so far are counted, and this is the next one.
pub record IsProfile (task : Task) (p : Progress) (times : List ℕ) (after : ℕ) (columns : List Column)
    (each room : ℕ) (coming : Coming) : Type 0 where
  pub on_run : IsOnRun task p
  pub counted : IsCounted task (executed_count_in p) (peak_in p) times after columns each room
  pub coming_is : coming ≡ coming_in p
