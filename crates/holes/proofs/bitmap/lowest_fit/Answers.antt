-- The loop shifts the lowest free words out until enough are free in a row, and the rest has the same lowest fit.
use Rattle.std.proofs.Common.{arith}
use Rattle.holes.proofs.Bitmaps.{step, whole}
use Rattle.holes.proofs.bitmap.lowest_fit.Goals as goal

pub returns-then-len-run : goal.returns-then-len-run
returns-then-len-run c =
    let s = step c.loop-rest.rest c.trailing_ones-run.result (omega arith) c.loop-rest.invariant.small
    c.trailing_ones-run.ensures in
    let lowest = s.here c.args.len c.requires.some (omega arith) in
    grind (arith, whole)
