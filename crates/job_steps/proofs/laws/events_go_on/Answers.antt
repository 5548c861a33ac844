use Rattle.job_steps.proofs.Admissions.{events_go_on}
use Rattle.job_steps.proofs.laws.events_go_on.Goals as goal

pub returns : goal.returns
returns c = events_go_on
