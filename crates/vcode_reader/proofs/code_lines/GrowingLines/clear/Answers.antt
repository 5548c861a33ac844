use Rattle.std.proofs.Common.{arith, rules}
use Rattle.std.proofs.lemmas.Grind.{common_steps}
use Rattle.vcode_reader.proofs.Pooling.{none_pooled, none_shown}
use Rattle.vcode_reader.proofs.code_lines.GrowingLines.clear.Goals as goal

pub invariant_of-self : goal.invariant_of-self
invariant_of-self g c = search (rules, none_pooled)

pub returns : goal.returns
returns g c = grind (arith, common_steps, none_shown)
