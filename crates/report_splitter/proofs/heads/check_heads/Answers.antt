use Rattle.std.proofs.Common.{arith}
use Rattle.report_splitter.specs.Heads.{whole_lines}
use Rattle.report_splitter.proofs.heads.check_heads.Goals as goal

pub returns-in_err-index : goal.returns-in_err-index
returns-in_err-index g c = grind (arith, c.in_err-index.ensures.other (whole_lines c.in-Some.more.now))
