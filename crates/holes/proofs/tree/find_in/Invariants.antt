use Rattle.holes.proofs.Near.{Passed}
use Rattle.holes.proofs.tree.find_in.Given as goal

abbrev pub invariant-loop-index : goal.invariant-loop-index
invariant-loop-index l = Passed l.bits l.len l.first l.index l.run
