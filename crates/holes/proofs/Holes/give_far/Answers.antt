-- What is left after words were given back is what the contract says, and its tree is right.
use Rattle.std.proofs.Common.{rules, min, ◌≡◌, ◌+◌, ◌/◌, ◌<◌, ◌^◌, arith}
use Rattle.std.proofs.lemmas.List.{with_items_is}
use Rattle.holes.proofs.Regions.{given_within, given, view_filled, view_length}
use Rattle.holes.proofs.Holes.give_far.Goals as goal

pub fill-self-inside-requires-clause-within : goal.fill-self-inside-requires-clause-within
fill-self-inside-requires-clause-within g c =
    let len = view_length c.self.invariant c.self.view_is in
    rw c.deref_mut.ensures.value (omega (arith, len, c.self.invariant.within, c.requires.within))

pub overflow_add-self : goal.overflow_add-self
overflow_add-self g c =
    let size_small : c.self.inside.size < 2 ^ 64 = search rules in
    let within = given_within c.self.invariant c.self.view_is c.requires.some c.requires.within c.requires.none_free
    c.requires.room in
    let small : c.self.inside.free + c.args.len < 2 ^ 64 = omega arith in
    search rules

pub invariant_of-self : goal.invariant_of-self
invariant_of-self g c =
    let fill = c.fill-self-inside in
    let filled = rw c.deref_mut.ensures.value at fill.ensures.filled in
    let bits = with_items_is c.self.inside.bits fill.new.bits
    (omega (arith, filled.same_length, c.self.inside.bits.ok.0)) in
    let nodes = with_items_is c.self.inside.nodes fill.new.nodes (grind arith) in
    let least : c.min-self-inside.result ≡ min c.self.inside.near (c.args.place / 64) = search rules in
    rw (bits, nodes) (given c.self.invariant c.self.view_is c.requires.some c.requires.within c.requires.none_free
    c.requires.room filled fill.ensures.tree fill.ensures.few (omega arith) (omega arith))

pub returns : goal.returns
returns g c =
    let filled = rw c.deref_mut.ensures.value at c.fill-self-inside.ensures.filled in
    let bits = with_items_is c.self.inside.bits c.fill-self-inside.new.bits
    (omega (arith, filled.same_length, c.self.inside.bits.ok.0)) in
    let len = view_length c.self.invariant c.self.view_is in
    rw bits (view_filled c.self.invariant c.self.view_is c.args.place c.args.len
    (omega (arith, len, c.requires.within)) filled)
