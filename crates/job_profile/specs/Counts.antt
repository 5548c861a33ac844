-- What is counted of the run of a job: how often each line is executed, and when the job first held its peak.
use Rattle.std.specs.Prelude.{◌≡◌, ℕ, zero, suc, ◌+◌, ◌<◌, ◌==◌, if◌then◌else◌, Option, Some, None}
use Rattle.vcode_reader.specs.Trees.{CodeLine}
use Rattle.job_steps.specs.Runs.{state_after, peak_in}
use Rattle.job_steps.specs.States.{Task}
use Rattle.job_steps.specs.Steps.{Progress}
use Rattle.job_profile.specs.Walks.{next_line_in}

abbrev pub number_of : Option CodeLine → ℕ
number_of None = 0
number_of (Some line) = line.number

-- the number of the line of the next instruction, and 0 if there is none
abbrev pub line_in : Progress → ℕ
line_in p = number_of (next_line_in p)

-- at how many of the first n states of a run this line is next: how often the first n instructions were on this line
unfoldable pub times_until : Task → ℕ → ℕ → ℕ
times_until task line zero = 0
times_until task line (suc n) = times_until task line n + (if line_in (state_after task n) == line then 1 else 0)

-- how many of the first n instructions were on one of `count` lines, of which the first has this number
abbrev pub times_of : Task → ℕ → ℕ → ℕ → ℕ
times_of task first zero n = 0
times_of task first (suc count) n = times_until task first n + times_of task (suc first) count n

-- the peak is this after n steps, and less after fewer
pub record IsFirstPeak (task : Task) (peak n : ℕ) : Type 0 where
  pub reached : peak_in (state_after task n) ≡ peak
  pub lower : (m : ℕ) → m < n → peak_in (state_after task m) < peak
