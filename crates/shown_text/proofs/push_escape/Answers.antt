use Rattle.std.proofs.Common.{append_assoc, arith}
use Rattle.shown_text.proofs.push_escape.Goals as goal

pub loop-part-preserved : goal.loop-part-preserved
loop-part-preserved g c = grind (arith, append_assoc)
