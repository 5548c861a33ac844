use Rattle.std.proofs.Common.{◌≡◌, ℕ, ◌+◌, ◌<◌, ◌≤◌, length}
use Rattle.holes.specs.Tree.{AreSameBesideLeaves, node_at, leaf_count, leaf_words, summary}
use Rattle.holes.proofs.tree.join_leaves.Given as goal

abbrev pub invariant-loop-leaf : goal.invariant-loop-leaf
invariant-loop-leaf l = record {
  same_length : length l.nodes ≡ length l.fn.nodes;
  leaves : (leaf : ℕ) → l.first ≤ leaf → leaf < l.leaf →
      node_at l.nodes (leaf_count l.fn.nodes + leaf) ≡ summary (leaf_words l.bits leaf);
  beside : AreSameBesideLeaves l.fn.nodes l.nodes l.first l.end;
}
