use Rattle.job_steps.proofs.Passing.{each_line_remains}
use Rattle.job_steps.proofs.laws.each_line_remains.Goals as goal

pub returns : goal.returns
returns c = each_line_remains
