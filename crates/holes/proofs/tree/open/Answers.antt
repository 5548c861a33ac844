use Rattle.std.proofs.Common.{inl, inr, arith, refl}
use Rattle.holes.proofs.Opening.{opened, open_already}
use Rattle.holes.proofs.tree.open.Goals as goal
use Rattle.holes.proofs.tree.open.Goals.{then-node-via-then-node, then-node-via-else-node+then-node-eq0}

pub returns-then-block-eq0 : goal.returns-then-block-eq0
returns-then-block-eq0 c =
    open_already c.args.nodes.now c.args.leaf 0 c.requires.within (omega arith) (λ some alike. absurd (omega arith))

pub returns-then-node : goal.returns-then-node
returns-then-node c =
    opened c.args.leaf c.requires.within refl (omega arith)
    (elim c.then-node.branch [
      | then-node-via-then-node w ↦ inl w.if-node.true
      | then-node-via-else-node+then-node-eq0 w ↦ inr w.if-node-eq0.true
    ]) c.open_block.ensures
