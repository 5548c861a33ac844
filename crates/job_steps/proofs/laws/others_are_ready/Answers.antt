use Rattle.job_steps.proofs.Halves.{is_ready}
use Rattle.job_steps.proofs.laws.others_are_ready.Goals as goal

pub returns : goal.returns
returns c = is_ready c.never_stuck.ensures c.reached.ensures
