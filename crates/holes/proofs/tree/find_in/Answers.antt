-- No hole of the bitmaps that were passed is wide enough, and the loop knows how many words are free at their end.
use Rattle.std.proofs.Common.{rules, ◌<◌, ◌^◌, get_or, arith}
use Rattle.holes.proofs.Bitmaps.{all_of, of_max}
use Rattle.holes.proofs.Near.{passed_none, passed_more}
use Rattle.holes.proofs.tree.find_in.Goals as goal

pub loop-index-init : goal.loop-index-init
loop-index-init c = passed_none c.args.bits.now c.args.len c.args.first c.requires.some

pub returns-then-fits-clause-lowest : goal.returns-then-fits-clause-lowest
returns-then-fits-clause-lowest c =
    let found = c.loop-index.invariant.inside c.args.end c.lowest_fit.result (omega arith)
    (omega (arith, c.front.ensures)) (c.fits.ensures.0 c.if-fits.true) c.lowest_fit.ensures.value in
    omega (arith, found.lowest)

pub loop-index-preserved : goal.loop-index-preserved
loop-index-preserved c =
    let bitmap = get_or c.args.bits.now c.loop-index.index 0 in
    let small : bitmap < 2 ^ 64 = search rules in
    let all = all_of bitmap small in
    passed_more c.args.bits.now c.args.len c.args.first c.loop-index.index c.loop-index.run c.if-bitmap.run
    c.requires.some (omega arith) c.loop-index.invariant (omega (arith, c.front.ensures)) (grind arith)
    (grind (arith, of_max))
