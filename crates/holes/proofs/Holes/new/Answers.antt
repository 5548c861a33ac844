use Rattle.std.proofs.Common.{arith}
use Rattle.holes.proofs.Bits.{length-words}
use Rattle.holes.proofs.Regions.{holes_of_none}
use Rattle.holes.proofs.Holes.new.Goals as goal

pub invariant_of-holes : goal.invariant_of-holes
invariant_of-holes g c =
    let leaves = c.leaves_for-leaves in
    rw (c.in_ok-bits.ensures.items_if_clones_equal (λ y e. e), c.in_ok-nodes.ensures.items_if_clones_equal (λ y e. e))
    (holes_of_none leaves.result c.args.size c.args.most leaves.ensures.power (omega (arith, leaves.ensures.few))
    leaves.ensures.enough c.requires.some)

pub returns : goal.returns
returns g c = grind (arith, length-words)
