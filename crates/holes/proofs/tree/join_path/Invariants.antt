use Rattle.std.proofs.Common.{◌≡◌, ◌≤◌, ℕ, List, length}
use Rattle.holes.specs.Tree.{IsJoining}
use Rattle.holes.proofs.tree.join_path.Given as goal

abbrev pub invariant-loop-index : goal.invariant-loop-index
invariant-loop-index l = record {
  same_length : length l.nodes ≡ length l.fn.nodes;
  shrunk : l.index ≤ l.fn.index;
  joining : (bits : List ℕ) → IsJoining bits l.fn.nodes l.fn.index l.fn.index → IsJoining bits l.nodes l.index l.index;
}

abbrev pub decreases-loop-index : goal.decreases-loop-index
decreases-loop-index l = l.index
