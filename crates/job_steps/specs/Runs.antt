-- A whole run of a job alone: its state after each number of steps, how it ends, and what it used.
use Rattle.std.specs.Prelude.{ℕ, zero, suc, ◌+◌, List}
use Rattle.vcode_base.specs.declared.outcome.Outcome.{Outcome}
use Rattle.vcode_base.specs.declared.outcome.Outcome.TheVariants.{Budget}
use Rattle.job_steps.specs.States.{Vector, Task, first_state}
use Rattle.job_steps.specs.Steps.{Progress, Running, Over, Stuck, next_progress}

abbrev pub progress_from : Task → Progress → Progress
progress_from task (Running s) = next_progress task s
progress_from task (Over ending executed peak) = Over ending executed peak
progress_from task Stuck = Stuck

-- after n steps
abbrev pub state_after : Task → ℕ → Progress
state_after task zero = Running (first_state task.verified)
state_after task (suc n) = progress_from task (state_after task n)

-- the end, which is reached after at most the budget's instructions
unfoldable pub whole_run : Task → Progress
whole_run task = state_after task (task.limits.budget + 1)

-- of a run that is over; no other whole run is one of a verified job
abbrev pub ending_in : Progress → Outcome (List Vector)
ending_in (Running s) = Budget
ending_in (Over ending executed peak) = ending
ending_in Stuck = Budget

abbrev pub executed_count_in : Progress → ℕ
executed_count_in (Running s) = s.executed
executed_count_in (Over ending executed peak) = executed
executed_count_in Stuck = 0

abbrev pub peak_in : Progress → ℕ
peak_in (Running s) = s.peak
peak_in (Over ending executed peak) = peak
peak_in Stuck = 0

-- how the job ends
unfoldable pub outcome : Task → Outcome (List Vector)
outcome task = ending_in (whole_run task)

-- how many instructions it executes
unfoldable pub executed_count : Task → ℕ
executed_count task = executed_count_in (whole_run task)

-- the most words that it held and needed at an instruction that it executed
unfoldable pub peak : Task → ℕ
peak task = peak_in (whole_run task)
