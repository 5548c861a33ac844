use Rattle.batch_packer.proofs.Joined.{joined_jobs}
use Rattle.batch_packer.proofs.laws.joined_jobs.Goals as goal

pub returns : goal.returns
returns c = joined_jobs
