-- A block that is put lies in words that were free.
use Rattle.std.proofs.Common.{sym, ap, ◌∙◌, refl, arith}
use Rattle.block_memory.specs.Content.{used_words}
use Rattle.block_memory.proofs.RegionLemmas.{HasRoom-bare, IsPackedRegion-put}
use Rattle.block_memory.proofs.region.PackedRegion.put.Goals as goal

pub put-number-requires-clause-bare : goal.put-number-requires-clause-bare
put-number-requires-clause-bare g c = HasRoom-bare c.take_room-place.ensures.room

pub invariant_of-self : goal.invariant_of-self
invariant_of-self g c =
    let room = c.take_room-place.ensures in
    let put = c.put-number in
    let fits = rw (← c.self.view_is) at c.requires.room in
    rw put.ensures.put (IsPackedRegion-put c.self.inside.used put.result _ room.room
    (c.self.invariant.counted ∙ ap used_words (sym room.content)) put.ensures.in_range put.ensures.vacant refl
    (omega arith) (omega (arith, fits, c.self.invariant.counted, room.size)))
