use Rattle.job_slots.proofs.Executed.{executable}
use Rattle.job_slots.proofs.execution.steps_execute.Goals as goal

pub returns : goal.returns
returns c = executable (assumption)
