use Rattle.job_steps.proofs.EventOrder.{events_commute}
use Rattle.job_steps.proofs.laws.events_commute.Goals as goal

pub returns : goal.returns
returns c = events_commute
