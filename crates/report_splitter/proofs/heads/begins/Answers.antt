use Rattle.std.proofs.Common.{arith}
use Rattle.std.proofs.lemmas.Bool.Decides.{Decides-eqb}
use Rattle.std.proofs.lemmas.Slice.Eq.{starts_is}
use Rattle.report_splitter.proofs.heads.begins.Goals as goal

pub returns : goal.returns
returns c = grind (arith, starts_is Decides-eqb c.args.line.now c.args.head.now c.starts_with.result)
