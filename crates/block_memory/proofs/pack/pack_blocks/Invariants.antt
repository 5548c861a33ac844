use Rattle.std.proofs.Common.{◌≤◌, ◌-◌}
use Rattle.block_memory.proofs.PackLemmas.{IsPacking}
use Rattle.block_memory.proofs.pack.pack_blocks.Given as goal

abbrev pub invariant-loop-packed : goal.invariant-loop-packed
invariant-loop-packed g l = record {
  packing : IsPacking l.initial.blocks l.blocks l.packed l.place l.covered;
  few : l.moved ≤ l.packed;
}

abbrev pub decreases-loop-packed : goal.decreases-loop-packed
decreases-loop-packed g l = l.blocks.size - l.place
