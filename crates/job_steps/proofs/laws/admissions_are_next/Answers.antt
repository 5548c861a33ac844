use Rattle.job_steps.proofs.Admissions.{admissions_are_next}
use Rattle.job_steps.proofs.laws.admissions_are_next.Goals as goal

pub returns : goal.returns
returns c = admissions_are_next
