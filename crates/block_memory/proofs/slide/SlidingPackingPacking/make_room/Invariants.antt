use Rattle.std.proofs.Common.{◌≤◌, ◌-◌}
use Rattle.block_memory.specs.Region.{IsRegion}
use Rattle.block_memory.proofs.PackLemmas.{IsPacking}
use Rattle.block_memory.proofs.slide.SlidingPackingPacking.make_room.Given as goal

abbrev pub invariant-loop-place : goal.invariant-loop-place
invariant-loop-place g l = record {
  packing : IsPacking l.initial.blocks l.blocks l.packed l.place l.covered;
  region : IsRegion l.blocks l.holes l.covered;
  within : l.place ≤ l.blocks.size;
  few : l.moved ≤ l.packed;
}

abbrev pub decreases-loop-place : goal.decreases-loop-place
decreases-loop-place g l = l.blocks.size - l.place
