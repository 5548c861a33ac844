-- The loop slides one block after another down, until there is room.
use Rattle.std.proofs.Common.{◌-◌, is_some, ap, arith}
use Rattle.block_memory.specs.Layout.{Layout}
use Rattle.block_memory.proofs.PackLemmas.{IsPacking-skip, IsPacking-moved, IsPacking-block}
use Rattle.block_memory.proofs.SlideLemmas.{is_gap, place_inside, widest-ge}
use Rattle.block_memory.proofs.FrontLemmas.{is_begun}
use Rattle.block_memory.proofs.slide.SlidingPackingPacking.make_room.Goals as goal

pub loop-place-init : goal.loop-place-init
loop-place-init g c =
    let begun = is_begun c.requires.region c.lowest_free-packed.ensures in
    record { packing = begun.packing; region = c.requires.region; within = begun.within; few = omega arith }

pub slide_down-moved-requires-clause-none_below : goal.slide_down-moved-requires-clause-none_below
slide_down-moved-requires-clause-none_below g c =
    let i = c.loop-place.invariant in (is_gap i.packing i.region i.within).none_below

pub loop-place-preserved-in-Some : goal.loop-place-preserved-in-Some
loop-place-preserved-in-Some g c =
    let i = c.loop-place.invariant in
    let e = c.slide_down-moved.ensures in
    let block = IsPacking-block i.packing c.in-Some.ensures.found in
    let size = ap (λ (now : Layout). now.size) e.moved in
    record {
      packing = IsPacking-moved _ i.packing c.in-Some.ensures.found e.moved c.range-words.ensures.len;
      region = e.region;
      within = omega (arith, block, c.range-words.ensures.len, size);
      few = omega (arith, i.few, e.few, c.range-words.ensures.len);
    }

pub loop-place-preserved : goal.loop-place-preserved
loop-place-preserved g c =
    let i = c.loop-place.invariant in
    let inside = place_inside c.args.len i.packing c.requires.fits c.loop-place-test.true in
    record {
      packing = IsPacking-skip i.packing c.in-None.ensures.none;
      region = i.region;
      within = omega (arith, inside);
      few = i.few;
    }

pub unreachable-requires : goal.unreachable-requires
unreachable-requires g c =
    let l = c.loop-place in
    let gap = is_gap l.invariant.packing l.invariant.region l.invariant.within in
    let wide = widest-ge l.holes.free l.packed (l.place - l.packed) gap.all_free in
    let narrow = c.take.ensures.none.0 (ap is_some c.in-None-take.is) in
    omega (arith, wide, narrow, c.loop-place-test.false)
