-- A block that slides down is the same block at a lower place.
use Rattle.std.proofs.Common.{is_some, ap, ◌∙◌, arith}
use Rattle.block_memory.specs.Layout.{layout_after_move}
use Rattle.block_memory.proofs.SlideLemmas.{is_sliding, is_slid, to_front}
use Rattle.block_memory.proofs.slide.slide_down.Goals as goal

pub give-requires-clause-within : goal.give-requires-clause-within
give-requires-clause-within g c =
    let e = c.range-place.ensures in
    (is_sliding c.args.number c.requires.region c.requires.there e.place e.len).leaving.within

pub give-requires-clause-none_free : goal.give-requires-clause-none_free
give-requires-clause-none_free g c =
    let e = c.range-place.ensures in
    (is_sliding c.args.number c.requires.region c.requires.there e.place e.len).leaving.none_free

pub unreachable-requires : goal.unreachable-requires
unreachable-requires g c =
    let e = c.range-place.ensures in
    let narrow = rw c.give.ensures at c.take.ensures.none.0 (ap is_some c.in-None.is) in
    let sliding = is_sliding c.args.number c.requires.region c.requires.there e.place e.len in
    omega (arith, sliding.wide, narrow)

pub slide-requires-clause-within : goal.slide-requires-clause-within
slide-requires-clause-within g c =
    let e = c.range-place.ensures in
    (is_slid c.args.number c.requires.region c.requires.there e.place e.len _ _ c.give.ensures
    c.in-Some.ensures.lowest c.in-Some.ensures.within).fits

pub slide-requires-clause-clear : goal.slide-requires-clause-clear
slide-requires-clause-clear g c =
    let e = c.range-place.ensures in
    (is_slid c.args.number c.requires.region c.requires.there e.place e.len _ _ c.give.ensures
    c.in-Some.ensures.lowest c.in-Some.ensures.within).clear

pub returns-clause-moved : goal.returns-clause-moved
returns-clause-moved g c =
    let e = c.range-place.ensures in
    let front = to_front c.args.number c.requires.region c.requires.there e.place e.len _ _ c.args.front c.give.ensures
    c.in-Some.ensures.lowest (rw (← e.len) at c.requires.some) c.requires.down c.requires.none_below c.requires.hole in
    c.slide.ensures.moved ∙ ap (λ to. layout_after_move c.args.blocks.now c.args.number to) front

pub returns-clause-region : goal.returns-clause-region
returns-clause-region g c =
    let e = c.range-place.ensures in
    rw (c.slide.ensures.moved, c.in-Some.ensures.taken, c.give.ensures)
    (is_slid c.args.number c.requires.region c.requires.there e.place e.len _ _ c.give.ensures
    c.in-Some.ensures.lowest c.in-Some.ensures.within).region
