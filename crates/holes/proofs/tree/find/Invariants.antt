use Rattle.std.proofs.Common.{◌-◌}
use Rattle.holes.proofs.Finding.{Known}
use Rattle.holes.proofs.tree.find.Given as goal

abbrev pub invariant-loop-index : goal.invariant-loop-index
invariant-loop-index l = Known l.bits l.nodes l.len l.index l.place l.width

abbrev pub decreases-loop-index : goal.decreases-loop-index
decreases-loop-index l = l.leaves - l.index
