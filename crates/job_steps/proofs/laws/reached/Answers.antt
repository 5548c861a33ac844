use Rattle.job_steps.proofs.VerifiedRuns.{reached}
use Rattle.job_steps.proofs.laws.reached.Goals as goal

pub returns : goal.returns
returns c = reached c.results_have_needed_lengths.ensures
