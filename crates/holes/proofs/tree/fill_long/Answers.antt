-- The nodes are those of the new words, after a range over several leaves was filled.
use Rattle.std.proofs.Common.{rules, ◌≡◌, ◌+◌, ◌^◌, arith}
use Rattle.holes.specs.Tree.{leaf_count}
use Rattle.holes.proofs.Nodes.{leaf_is}
use Rattle.holes.proofs.Trees.{tree_filled, joining_of, long_written, between_filled}
use Rattle.holes.proofs.tree.fill_long.Goals as goal

pub returns-clause-tree : goal.returns-clause-tree
returns-clause-tree c =
    let tree = tree_filled c.requires.tree c.fill_words.ensures (omega (arith, c.requires.from))
    (omega (arith, c.requires.to)) in
    let top = tree.height in
    let count : leaf_count c.args.nodes.now ≡ 2 ^ top = omega (arith, tree.node_count) in
    let within = tree.within in
    let left = leaf_is top (2 ^ top + c.args.first) (omega arith) (omega arith) in
    let right = leaf_is top (2 ^ top + c.args.last) (omega arith) (omega arith) in
    let written = (rw count at c.write_between.ensures) top left right in
    c.join_above.ensures c.fill_words.new.bits (joining_of tree c.args.last (omega arith) (omega arith)
    (long_written {two = c.join_leaves.new.nodes} c.requires.order (omega arith) count
    (λ word from to. between_filled c.args.bits.now c.fill_words.new.bits c.args.place c.args.len c.args.value
    (omega arith) c.fill_words.ensures word (omega (arith, c.requires.from)) (omega (arith, c.requires.to)))
    c.write_between.auto.nodes written (search rules) (search rules)))
