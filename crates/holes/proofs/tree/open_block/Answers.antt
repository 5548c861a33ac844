use Rattle.std.proofs.Common.{arith, ◌∙◌}
use Rattle.holes.proofs.Writing.{doubled, block_written}
use Rattle.holes.proofs.tree.open_block.Goals as goal

pub returns : goal.returns
returns c =
    let value = c.alike-node.ensures in
    let pair = c.join-node.ensures ∙ doubled 256 _ c.alike-node.result (omega arith) value in
    let half = c.join-node-2.ensures ∙ doubled 512 _ c.join-node.result (omega arith) pair in
    block_written c.requires.some value pair half c.write.ensures
    c.write-2.ensures c.write-3.ensures
