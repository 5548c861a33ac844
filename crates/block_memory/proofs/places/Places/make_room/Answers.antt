use Rattle.std.proofs.Common.{◌∙◌}
use Rattle.block_memory.proofs.PlacesLemmas.{places-none, taken_after_all, room_after}
use Rattle.block_memory.proofs.places.Places.make_room.Goals as goal

pub invariant_of-self : goal.invariant_of-self
invariant_of-self g c =
    let all = c.give_all_back in
    let e = c.in-Some.ensures in
    (taken_after_all c.args.self.now all.new.holes all.new.kept all.ensures.emptied
    (all.ensures.holes ∙ c.self.view_is) c.args.blocks.now c.args.covered c.in-Some.place c.args.len c.requires.region
    e.lowest e.within _ e.taken).0

pub invariant_of-self-2 : goal.invariant_of-self-2
invariant_of-self-2 g c =
    let room = c.make_room in
    places-none room.new.holes c.give_all_back.new.kept c.give_all_back.ensures.emptied
    (room_after room.new.blocks room.new.holes c.args.covered room.result c.args.len room.ensures.room)
