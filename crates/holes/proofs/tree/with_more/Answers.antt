use Rattle.std.proofs.Common.{arith}
use Rattle.holes.proofs.Trees.{open_blocks}
use Rattle.holes.proofs.tree.with_more.Goals as goal

pub returns-clause-tree : goal.returns-clause-tree
returns-clause-tree c =
    open_blocks
    c.join_changed.ensures c.open_two.auto.nodes c.requires.order
    (omega (arith, c.requires.within, c.join_changed.auto.nodes)) c.open_two.ensures
