use Rattle.std.proofs.Common.{◌≡◌, arith, sym, ◌∙◌}
use Rattle.holes.specs.Tree.{node_at}
use Rattle.holes.proofs.Runs.{equal_summaries}
use Rattle.holes.proofs.Joining.{joining_done, joining_same}
use Rattle.holes.proofs.tree.join_path.Goals as goal

pub returns-then-eq : goal.returns-then-eq
returns-then-eq c bits is =
    joining_same c.loop-index-test.true
    (equal_summaries (node_at c.loop-index.nodes c.loop-index.index) c.join-joined.result
    (sym c.eq.ensures ∙ c.if-eq.true) ∙ c.join-joined.ensures) (c.loop-index.invariant.joining bits is)

pub returns : goal.returns
returns c bits is =
    let none : c.loop-index.index ≡ 0 = omega arith in
    joining_done (rw none at (c.loop-index.invariant.joining bits is))
