use Rattle.holes.specs.Tree.{IsWritten}
use Rattle.holes.proofs.tree.write.Given as goal

abbrev pub invariant-loop-index : goal.invariant-loop-index
invariant-loop-index l = IsWritten l.fn.nodes l.nodes l.first l.index l.fn.node
