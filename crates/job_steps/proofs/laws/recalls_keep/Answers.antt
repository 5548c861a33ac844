use Rattle.job_steps.proofs.Kept.{recalls_keep}
use Rattle.job_steps.proofs.laws.recalls_keep.Goals as goal

pub returns : goal.returns
returns c = recalls_keep
