use Rattle.job_steps.proofs.Halves.{early_ends}
use Rattle.job_steps.proofs.laws.early_ends_end.Goals as goal

pub returns : goal.returns
returns c = early_ends c.never_stuck.ensures c.reached.ensures c.end_is_own.ensures
