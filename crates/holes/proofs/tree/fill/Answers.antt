use Rattle.std.proofs.Common.{arith}
use Rattle.holes.proofs.Trees.{tree_filled, beside_none}
use Rattle.holes.proofs.tree.fill.Goals as goal
use Rattle.holes.proofs.tree.fill.Goals.{then-first-changed+else-last-first-ge-NEAR}
use Rattle.holes.proofs.tree.fill.Goals.{else-first-changed+else-changed-last}

pub returns-then-last-first-ge-NEAR-clause-tree : goal.returns-then-last-first-ge-NEAR-clause-tree
returns-then-last-first-ge-NEAR-clause-tree c = beside_none c.fill_long.ensures.tree

pub returns-clause-tree : goal.returns-clause-tree
returns-clause-tree c = elim c.if-first-changed.branch [
  | then-first-changed+else-last-first-ge-NEAR w ↦
      let more = w.with_more-changed.ensures in
      rw (w.changed-is, w.nodes-is)
      (tree_filled more.tree c.fill_words.ensures (omega (arith, more.first)) (omega (arith, more.end)))
  | else-first-changed+else-changed-last w ↦ rw (w.changed-is, w.nodes-is)
      (tree_filled c.requires.tree c.fill_words.ensures (omega (arith, w.if-first-changed.false))
      (omega (arith, w.if-changed-last.false)))
]
