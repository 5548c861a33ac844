use Rattle.std.proofs.Common.{◌+◌, ◌≤◌, is_some, ap, arith}
use Rattle.block_memory.proofs.RegionLemmas.{wide_enough}
use Rattle.block_memory.proofs.pack.WholePackingPacking.make_room.Goals as goal

pub unreachable-requires : goal.unreachable-requires
unreachable-requires g c =
    let packed = c.pack_region-counts in
    let size = packed.ensures.size in
    let fits : c.args.covered + c.args.len ≤ packed.new.blocks.size = omega (arith, size, c.requires.fits) in
    wide_enough packed.new.blocks packed.new.holes c.args.covered c.args.len packed.ensures.packed fits
    (c.take.ensures.none.0 (ap is_some c.in-None.is))
