use Rattle.job_steps.proofs.OtherRuns.{used_are_least}
use Rattle.job_steps.proofs.laws.used_are_least.Goals as goal

pub returns : goal.returns
returns c = used_are_least c.never_stuck.ensures c.reached.ensures c.each_ends.ensures c.end_is_own.ensures
