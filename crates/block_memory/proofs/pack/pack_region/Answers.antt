use Rattle.block_memory.proofs.RegionLemmas.{IsRegion-packed}
use Rattle.block_memory.proofs.pack.pack_region.Goals as goal

pub returns-clause-region : goal.returns-clause-region
returns-clause-region g c =
    let now = c.pack_blocks-moved.new.blocks in
    let e = c.pack_blocks-moved.ensures in
    rw c.reset.ensures
    (IsRegion-packed c.args.blocks.now now c.args.holes.now c.args.covered c.requires e.size e.content e.within e.packed
    e.counted)
