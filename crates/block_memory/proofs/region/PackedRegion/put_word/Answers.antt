use Rattle.std.proofs.Common.{arith}
use Rattle.block_memory.proofs.RegionLemmas.{IsPackedRegion-word}
use Rattle.block_memory.proofs.region.PackedRegion.put_word.Goals as goal

pub invariant_of-self : goal.invariant_of-self
invariant_of-self g c =
    let here = c.self.inside in
    let put = c.put_word-number in
    let room = rw (← c.self.view_is) at c.requires.room in
    rw (put.ensures.put) (IsPackedRegion-word put.result c.args.owner
    c.args.word.now c.self.invariant c.requires.one put.ensures.in_range put.ensures.vacant
    (omega (arith, room, c.self.invariant.counted)))
