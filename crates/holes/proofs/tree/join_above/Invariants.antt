use Rattle.std.proofs.Common.{◌≡◌, ◌/◌, ◌≤◌, ℕ, List, length}
use Rattle.holes.specs.Tree.{IsJoining}
use Rattle.holes.proofs.tree.join_above.Given as goal

abbrev pub invariant-loop-first : goal.invariant-loop-first
invariant-loop-first l = record {
  same_length : length l.nodes ≡ length l.fn.nodes;
  order : l.first ≤ l.last;
  shrunk : l.last ≤ l.fn.last / 2;
  joining : (bits : List ℕ) → IsJoining bits l.fn.nodes (l.fn.first / 2) (l.fn.last / 2) →
      IsJoining bits l.nodes l.first l.last;
}

abbrev pub decreases-loop-first : goal.decreases-loop-first
decreases-loop-first l = l.last
