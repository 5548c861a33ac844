use Rattle.block_memory.proofs.PlacesLemmas.{after_take, taken_at_hand}
use Rattle.block_memory.proofs.places.Places.take.Goals as goal

pub invariant_of-self : goal.invariant_of-self
invariant_of-self g c =
    (taken_at_hand c.self.inside.holes c.self.inside.kept c.self.invariant c.in-Some.index
    (record { place = c.in-Some.place; len = c.args.len }) c.in-Some.ensures).0

pub returns-in-Some-clause-taken : goal.returns-in-Some-clause-taken
returns-in-Some-clause-taken g c =
    rw (← c.self.view_is) (taken_at_hand c.self.inside.holes c.self.inside.kept c.self.invariant c.in-Some.index
    (record { place = c.in-Some.place; len = c.args.len }) c.in-Some.ensures).1

pub invariant_of-self-2 : goal.invariant_of-self-2
invariant_of-self-2 g c =
    let e = c.take.ensures in
    (after_take c.self.inside.holes c.self.inside.kept c.self.invariant c.args.len c.take.new.self c.take.result
    e.lowest e.within e.taken e.unchanged).0

pub returns-clause-taken : goal.returns-clause-taken
returns-clause-taken g c =
    let e = c.take.ensures in
    rw (← c.self.view_is) (after_take c.self.inside.holes c.self.inside.kept c.self.invariant c.args.len c.take.new.self
    c.take.result e.lowest e.within e.taken e.unchanged).1
