-- What is left after one word was given back at hand is what the contract says.
use Rattle.std.proofs.Common.{rules, min, ◌≡◌, ◌+◌, ◌/◌, ◌<◌, ◌^◌, arith}
use Rattle.std.proofs.lemmas.List.{with_items_is}
use Rattle.holes.proofs.Trees.{tree_filled}
use Rattle.holes.proofs.Regions.{given_within, given, view_filled, view_length}
use Rattle.holes.proofs.Holes.give_near.Goals as goal

pub overflow_add-self : goal.overflow_add-self
overflow_add-self g c =
    let size_small : c.self.inside.size < 2 ^ 64 = search rules in
    let within = given_within c.self.invariant c.self.view_is (omega arith) c.requires.within c.requires.none_free
    c.requires.room in
    let small : c.self.inside.free + 1 < 2 ^ 64 = omega arith in
    search rules

pub invariant_of-self : goal.invariant_of-self
invariant_of-self g c =
    let filled = rw c.deref_mut.ensures.value at c.give_word.ensures in
    let bits = with_items_is c.self.inside.bits c.give_word.new.bits
    (omega (arith, filled.same_length, c.self.inside.bits.ok.0)) in
    let leaf = c.has.ensures (search rules) in
    let least : c.min-self-inside.result ≡ min c.self.inside.near (c.args.place / 64) = search rules in
    rw bits (given c.self.invariant c.self.view_is (omega arith) c.requires.within c.requires.none_free
    c.requires.room filled
    (tree_filled c.self.invariant.tree filled (omega (arith, leaf.0)) (omega (arith, leaf.1)))
    c.self.invariant.few_changed (omega arith) (omega arith))

pub returns : goal.returns
returns g c =
    let filled = rw c.deref_mut.ensures.value at c.give_word.ensures in
    let bits = with_items_is c.self.inside.bits c.give_word.new.bits
    (omega (arith, filled.same_length, c.self.inside.bits.ok.0)) in
    let len = view_length c.self.invariant c.self.view_is in
    rw bits (view_filled c.self.invariant c.self.view_is c.args.place 1 (omega (arith, len, c.requires.within)) filled)
