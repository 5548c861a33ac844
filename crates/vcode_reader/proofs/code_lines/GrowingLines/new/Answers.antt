use Rattle.std.proofs.Common.{arith, rules}
use Rattle.vcode_reader.proofs.Pooling.{none_pooled, none_shown}
use Rattle.vcode_reader.proofs.code_lines.GrowingLines.new.Goals as goal

pub invariant_of-result : goal.invariant_of-result
invariant_of-result g c = search (rules, none_pooled)

pub returns : goal.returns
returns g c = grind (arith, none_shown)
