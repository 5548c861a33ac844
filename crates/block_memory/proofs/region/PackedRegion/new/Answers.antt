use Rattle.block_memory.proofs.RegionLemmas.{IsPackedRegion-empty}
use Rattle.block_memory.proofs.region.PackedRegion.new.Goals as goal

pub invariant_of-result : goal.invariant_of-result
invariant_of-result g c =
    rw (c.in_ok-blocks.ensures, c.in_ok-places.ensures) (IsPackedRegion-empty c.args.size c.args.most_blocks)
