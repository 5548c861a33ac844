use Rattle.block_memory.proofs.PlacesLemmas.{places-none}
use Rattle.block_memory.proofs.places.Places.pack.Goals as goal

pub invariant_of-self : goal.invariant_of-self
invariant_of-self g c =
    places-none c.pack_region.new.holes c.give_all_back.new.kept c.give_all_back.ensures.emptied
    c.pack_region.ensures.region.room
