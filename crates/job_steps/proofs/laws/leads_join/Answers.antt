use Rattle.job_steps.proofs.EventOrder.{leads_join}
use Rattle.job_steps.proofs.laws.leads_join.Goals as goal

pub returns : goal.returns
returns c = leads_join
