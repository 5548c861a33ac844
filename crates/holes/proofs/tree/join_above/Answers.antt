use Rattle.std.proofs.Common.{◌≡◌, arith}
use Rattle.holes.proofs.tree.join_above.Goals as goal

pub returns : goal.returns
returns c bits is =
    let i = c.loop-first.invariant in
    let same : c.loop-first.first ≡ c.loop-first.last = omega (arith, i.order) in
    c.join_path.ensures bits (rw same at (i.joining bits is))
