use Rattle.std.proofs.Common.{sym}
use Rattle.batch_reader.proofs.JobLineLemmas.{limits_are}
use Rattle.batch_reader.proofs.job_line.limits_within.Goals as goal

pub returns : goal.returns
returns c = sym (limits_are _)
