use Rattle.block_memory.proofs.PlacesLemmas.{returned}
use Rattle.block_memory.proofs.places.give_back.Goals as goal

pub returns-in-Some-clause-places : goal.returns-in-Some-clause-places
returns-in-Some-clause-places g c =
    rw c.give.ensures
    (returned c.args.holes.now c.args.kept.now c.requires.places c.args.index c.in-Some.range c.in-Some.is).0
