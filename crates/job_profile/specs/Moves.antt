-- What a step makes of the run of a job.
use Rattle.std.specs.Prelude.{◌≡◌, ◌⊎◌, ℕ, suc, ◌+◌, max}
use Rattle.job_steps.specs.Reached.{IsVerifiedBySome}
use Rattle.job_steps.specs.Runs.{executed_count_in, peak_in, progress_from, state_after}
use Rattle.job_steps.specs.States.{Task}
use Rattle.job_steps.specs.Steps.{Ending, Progress, Over}
use Rattle.job_slots.specs.Answers.{demand_in}

-- a verified job comes here by a number of steps
pub record IsOnRun (task : Task) (p : Progress) : Type 0 where
  pub steps : ℕ
  pub come : p ≡ state_after task steps
  pub verified : IsVerifiedBySome task.verified

-- no instruction was executed, and the run is over
pub record HasStayed (p q : Progress) : Type 0 where
  pub ending : Ending
  pub over : q ≡ Over ending (executed_count_in p) (peak_in p)

-- an instruction was executed
pub record HasExecuted (task : Task) (p q : Progress) : Type 0 where
  pub before : p ≡ state_after task (executed_count_in p)
  pub after : q ≡ state_after task (suc (executed_count_in p))
  pub executed : executed_count_in q ≡ executed_count_in p + 1
  pub peak_is : peak_in q ≡ max (peak_in p) (demand_in task.rule p)

pub record HasMoved (task : Task) (p q : Progress) : Type 0 where
  pub on_run : IsOnRun task q
  pub moves : HasStayed p q ⊎ HasExecuted task p q

abbrev pub StepsMove : Type 0
StepsMove = (task : Task) (p q : Progress) → IsOnRun task p → q ≡ progress_from task p → HasMoved task p q
