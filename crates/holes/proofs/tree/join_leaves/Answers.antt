use Rattle.std.proofs.Common.{◌+◌, ◌*◌, arith, ap, ◌∙◌, refl}
use Rattle.std.proofs.lemmas.List.{length-set}
use Rattle.holes.specs.Tree.{summary}
use Rattle.holes.proofs.Nodes.{between_leaf}
use Rattle.holes.proofs.Trees.{leaf_more, leaf_beside}
use Rattle.holes.proofs.tree.join_leaves.Goals as goal

pub loop-leaf-preserved : goal.loop-leaf-preserved
loop-leaf-preserved c =
    let i = c.loop-leaf.invariant in
    let leaf = c.loop-leaf.leaf in
    let is = c.summary.ensures ∙ ap summary (between_leaf c.args.bits.now leaf (leaf * 4) (leaf * 4 + 4) (omega arith)
    refl) in
    record {
      same_length = length-set c.loop-leaf.nodes _ c.summary.result ∙ i.same_length;
      leaves = leaf_more c.args.bits.now c.args.nodes.now c.loop-leaf.nodes c.args.first leaf c.summary.result
          i.same_length is (omega (arith, c.requires.within)) i.leaves;
      beside = leaf_beside c.args.nodes.now c.loop-leaf.nodes c.args.first c.args.end leaf c.summary.result
          (omega arith) (omega arith) i.beside;
    }

pub returns-clause-leaves : goal.returns-clause-leaves
returns-clause-leaves c leaf ge lt = c.loop-leaf.invariant.leaves leaf ge (omega arith)
