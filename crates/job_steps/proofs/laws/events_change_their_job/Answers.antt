use Rattle.job_steps.proofs.Happenings.{changes_its_job}
use Rattle.job_steps.proofs.laws.events_change_their_job.Goals as goal

pub returns : goal.returns
returns c = changes_its_job
