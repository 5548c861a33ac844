-- The loop goes down to the node that has the lowest fit, until the fit is known or a leaf is reached.
use Rattle.std.proofs.Common.{arith}
use Rattle.holes.proofs.Finding.{at_root, known, root_whole}
use Rattle.holes.proofs.tree.find.Goals as goal

pub returns-then-root-clause-lowest : goal.returns-then-root-clause-lowest
returns-then-root-clause-lowest c = root_whole c.args.len c.requires.tree (omega arith) c.if-root.true

pub loop-index-init : goal.loop-index-init
loop-index-init c = known c.requires.some (at_root c.requires.tree (omega arith) c.if-root.false)

pub loop-index-preserved-then-len-left : goal.loop-index-preserved-then-len-left
loop-index-preserved-then-len-left c =
    known c.requires.some ((c.loop-index.invariant.below c.loop-index-test.true).left (omega arith) c.if-left.false)

pub loop-index-preserved : goal.loop-index-preserved
loop-index-preserved c =
    known c.requires.some ((c.loop-index.invariant.below c.loop-index-test.true).right (omega arith) (omega arith))
