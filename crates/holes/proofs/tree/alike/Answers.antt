use Rattle.std.proofs.Common.{true, false, sym, arith}
use Rattle.holes.proofs.Bitmaps.{summary_all}
use Rattle.holes.proofs.tree.alike.Goals as goal

pub returns-then-value : goal.returns-then-value
returns-then-value c = rw c.if-value.true (sym (summary_all 256 true (omega arith)))

pub returns-else-value : goal.returns-else-value
returns-else-value c = rw c.if-value.false (sym (summary_all 256 false (omega arith)))
