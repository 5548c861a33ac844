-- The loop moves one block after another to the lowest free words.
use Rattle.std.proofs.Common.{ap, arith}
use Rattle.block_memory.specs.Layout.{Layout, covered_of}
use Rattle.block_memory.proofs.PackLemmas.{IsPacking-inside, IsPacking-skip, IsPacking-moved, slide_clear}
use Rattle.block_memory.proofs.PackLemmas.{IsPacking-block}
use Rattle.block_memory.proofs.FrontLemmas.{is_begun}
use Rattle.block_memory.proofs.pack.pack_blocks.Goals as goal

pub loop-packed-init : goal.loop-packed-init
loop-packed-init g c =
    record { packing = (is_begun c.requires c.lowest_free-packed.ensures).packing; few = omega arith }

pub beginning_at-requires : goal.beginning_at-requires
beginning_at-requires g c = IsPacking-inside c.loop-packed.invariant.packing c.loop-packed-test.true

pub overflow_add-place : goal.overflow_add-place
overflow_add-place g c =
    let block = IsPacking-block c.loop-packed.invariant.packing c.in-Some.ensures.found in
    omega (arith, block, c.range-len.ensures.len, c.beginning_at.ensures.in_memory)

pub loop-packed-smaller-in-Some : goal.loop-packed-smaller-in-Some
loop-packed-smaller-in-Some g c =
    let block = IsPacking-block c.loop-packed.invariant.packing c.in-Some.ensures.found in
    let size = ap (λ (now : Layout). now.size) c.slide-moved.ensures.moved in
    omega (arith, block, c.range-len.ensures.len, size)

pub slide-moved-requires-clause-clear : goal.slide-moved-requires-clause-clear
slide-moved-requires-clause-clear g c =
    let b = c.in-Some.ensures.found in
    rw (ap covered_of b.there)
    (slide_clear _ _ _ _ _ c.in-Some.number b.block c.loop-packed.invariant.packing b.there b.here b.some)

pub loop-packed-preserved-in-Some : goal.loop-packed-preserved-in-Some
loop-packed-preserved-in-Some g c =
    let i = c.loop-packed.invariant in
    let long = c.range-len.ensures.len in
    record {
      packing = IsPacking-moved _ i.packing c.in-Some.ensures.found c.slide-moved.ensures.moved long;
      few = omega (arith, i.few, c.slide-moved.ensures.few, long);
    }

pub loop-packed-preserved : goal.loop-packed-preserved
loop-packed-preserved g c =
    let i = c.loop-packed.invariant in
    record { packing = IsPacking-skip i.packing c.in-None.ensures.none; few = i.few }

pub overflow_add-place-in-None : goal.overflow_add-place-in-None
overflow_add-place-in-None g c =
    let inside = IsPacking-inside c.loop-packed.invariant.packing c.loop-packed-test.true in
    omega (arith, inside, c.beginning_at.ensures.in_memory)

pub loop-packed-smaller : goal.loop-packed-smaller
loop-packed-smaller g c =
    let inside = IsPacking-inside c.loop-packed.invariant.packing c.loop-packed-test.true in
    omega (arith, inside)
