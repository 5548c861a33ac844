use Rattle.std.proofs.Common.{◌≡◌}
use Rattle.holes.specs.Tree.{summary, words_between}
use Rattle.holes.proofs.tree.summary.Given as goal

abbrev pub invariant-loop-index : goal.invariant-loop-index
invariant-loop-index l = l.all ≡ summary (words_between l.bits l.first l.index)
