use Rattle.std.proofs.Common.{◌≡◌, ℕ, ◌*◌, ◌≤◌, length}
use Rattle.std.specs.Prelude.{replicate}
use Rattle.holes.specs.Tree.{IsNode, above, width, summary}
use Rattle.holes.proofs.Writing.{side_at, AreWrittenUnder}
use Rattle.holes.proofs.tree.write_between.Given as goal

abbrev pub invariant-loop-first : goal.invariant-loop-first
invariant-loop-first l = record {
  same_length : length l.nodes ≡ length l.fn.nodes;
  height : ℕ;
  first_is : l.first ≡ above height l.fn.first;
  last_is : l.last ≡ above height l.fn.last;
  order : l.first ≤ l.last;
  shrunk : l.last ≤ l.fn.last;
  node_is : l.node ≡ summary (replicate (256 * width height) l.fn.value);
  side_is : l.side ≡ side_at height;
  written : (top : ℕ) → IsNode top 0 l.fn.first → IsNode top 0 l.fn.last →
      AreWrittenUnder l.fn.nodes l.nodes top height l.fn.first l.fn.last l.fn.value;
}

abbrev pub decreases-loop-first : goal.decreases-loop-first
decreases-loop-first l = l.last
