-- What is left after words were taken is what the contract says, and its tree is right.
use Rattle.std.proofs.Common.{arith, ◌∙◌}
use Rattle.std.proofs.lemmas.List.{with_items_is}
use Rattle.holes.proofs.Regions.{taken_lowest, taken_within, taken_some, taken, view_filled, view_length}
use Rattle.holes.proofs.Holes.take_far.Goals as goal

pub near_after-self-inside-requires-clause-range : goal.near_after-self-inside-requires-clause-range
near_after-self-inside-requires-clause-range g c =
    let seen = c.self.view_is ∙ c.in_ok-place.ensures.unchanged in
    let within = taken_within c.self.invariant seen c.requires (grind arith) c.in_ok-place.ensures.lowest in
    rw c.deref.ensures.value (omega (arith, within, c.self.invariant.within))

pub fill-self-inside-requires-clause-within : goal.fill-self-inside-requires-clause-within
fill-self-inside-requires-clause-within g c =
    let seen = c.self.view_is ∙ c.in_ok-place.ensures.unchanged in
    let within = taken_within c.self.invariant seen c.requires (grind arith) c.in_ok-place.ensures.lowest in
    rw c.deref_mut.ensures.value (omega (arith, within, c.self.invariant.within))

pub overflow_sub-self : goal.overflow_sub-self
overflow_sub-self g c =
    let seen = c.self.view_is ∙ c.in_ok-place.ensures.unchanged in
    taken_some c.self.invariant seen c.requires (grind arith) c.in_ok-place.ensures.lowest

pub invariant_of-self : goal.invariant_of-self
invariant_of-self g c =
    let seen = c.self.view_is ∙ c.in_ok-place.ensures.unchanged in
    let fill = c.fill-self-inside in
    let filled = rw c.deref_mut.ensures.value at fill.ensures.filled in
    let near = rw c.deref.ensures.value at c.near_after-self-inside.ensures in
    let bits = with_items_is c.self.inside.bits fill.new.bits
    (omega (arith, filled.same_length, c.self.inside.bits.ok.0)) in
    let nodes = with_items_is c.self.inside.nodes fill.new.nodes (grind arith) in
    rw (bits, nodes) (taken c.self.invariant seen c.requires (grind arith) c.in_ok-place.ensures.lowest filled
    fill.ensures.tree fill.ensures.few near.within near.none_beside)

pub returns-clause-lowest : goal.returns-clause-lowest
returns-clause-lowest g c =
    let seen = c.self.view_is ∙ c.in_ok-place.ensures.unchanged in
    taken_lowest c.self.invariant seen c.requires (grind arith) c.in_ok-place.ensures.lowest

pub returns-clause-within : goal.returns-clause-within
returns-clause-within g c =
    let seen = c.self.view_is ∙ c.in_ok-place.ensures.unchanged in
    omega (
      arith,
      taken_within c.self.invariant seen c.requires (grind arith) c.in_ok-place.ensures.lowest,
      view_length c.self.invariant seen,
    )

pub returns-clause-taken : goal.returns-clause-taken
returns-clause-taken g c =
    let seen = c.self.view_is ∙ c.in_ok-place.ensures.unchanged in
    let fill = c.fill-self-inside in
    let filled = rw c.deref_mut.ensures.value at fill.ensures.filled in
    let bits = with_items_is c.self.inside.bits fill.new.bits
    (omega (arith, filled.same_length, c.self.inside.bits.ok.0)) in
    rw bits (view_filled c.self.invariant seen c.in_ok-place.place c.args.len
    (taken_within c.self.invariant seen c.requires (grind arith) c.in_ok-place.ensures.lowest) filled)
