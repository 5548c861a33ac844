use Rattle.std.proofs.Common.{arith, pos}
use Rattle.std.proofs.lemmas.Grind.{common_steps}
use Rattle.std.proofs.lemmas.Int.{to_z-of_z}
use Rattle.vector_ops.proofs.Lists.{pairs_more}
use Rattle.vector_ops.proofs.steps.fill_many_pairs.Goals as goal

pub loop-i-preserved : goal.loop-i-preserved
loop-i-preserved g c =
    let more =
    pairs_more c.args.left.now c.args.right.now (λ p. g.S.PairStep.gives p.0 p.1) c.loop-i.i (pos 0, pos 0) in
    grind (arith, common_steps, to_z-of_z, more)
