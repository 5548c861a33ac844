use Rattle.job_slots.proofs.Executed.{held_is_counted}
use Rattle.job_slots.proofs.execution.held_is_counted.Goals as goal

pub returns : goal.returns
returns c = held_is_counted (assumption)
