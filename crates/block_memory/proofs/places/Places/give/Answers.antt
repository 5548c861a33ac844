-- A range that is given back is among the holes, and no block covers it.
use Rattle.std.proofs.Common.{rules, ◌<◌, length, ◌∙◌}
use Rattle.block_memory.specs.Places.{slots_of}
use Rattle.block_memory.proofs.PlacesLemmas.{none_free-there, given_to_holes, kept_next}
use Rattle.block_memory.proofs.places.Places.give.Goals as goal

pub give-requires-clause-none_free : goal.give-requires-clause-none_free
give-requires-clause-none_free g c =
    none_free-there c.self.inside.holes (slots_of c.self.inside.kept) c.self.invariant c.args.place c.args.len
    (rw (← c.self.view_is) at c.requires.none_free)

pub invariant_of-self : goal.invariant_of-self
invariant_of-self g c =
    rw c.give.ensures (given_to_holes c.self.inside.holes c.self.inside.kept c.self.invariant c.args.place c.args.len
    (rw (← c.self.view_is) at c.requires.within) (rw (← c.self.view_is) at c.requires.none_free)).0

pub invariant_of-self-2 : goal.invariant_of-self-2
invariant_of-self-2 g c =
    let in_range : c.index_for-index.result < length c.self.inside.kept = search rules in
    (kept_next c.give_back.new.holes c.give_back.new.kept c.give_back.ensures.places c.args.self.now
    (c.give_back.ensures.same_words ∙ c.self.view_is) c.self.inside.kept c.index_for-index.result
    (record { place = c.args.place; len = c.args.len }) in_range c.give_back.ensures.emptied c.requires.some
    c.requires.within c.requires.none_free).0
