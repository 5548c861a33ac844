-- After two ranges were filled, exactly the words from a place on are free.
use Rattle.std.proofs.Common.{rules, min, ◌≡◌, ◌-◌, ◌/◌, arith}
use Rattle.std.specs.Vec.{with_items}
use Rattle.std.proofs.lemmas.List.{with_items_is}
use Rattle.holes.proofs.Regions.{view_length, view_reset, reset}
use Rattle.holes.proofs.Holes.reset.Given as given
use Rattle.holes.proofs.Holes.reset.Goals as goal
use Rattle.holes.proofs.Holes.reset.Goals.{After-fill-self-inside}

pub overflow_sub-self : goal.overflow_sub-self
overflow_sub-self g c = omega (arith, c.requires, view_length c.self.invariant c.self.view_is)

pub fill-self-inside-requires-clause-within : goal.fill-self-inside-requires-clause-within
fill-self-inside-requires-clause-within g c =
    let len = view_length c.self.invariant c.self.view_is in
    rw c.deref_mut.ensures.value (omega (arith, c.requires, len, c.self.invariant.within))

-- the bitmaps that are written back first
first : (g : given.Over) (c : After-fill-self-inside g) →
    (with_items c.self.inside.bits c.fill-self-inside.new.bits).items ≡ c.fill-self-inside.new.bits
first g c =
    let filled = rw c.deref_mut.ensures.value at c.fill-self-inside.ensures.filled in
    with_items_is c.self.inside.bits c.fill-self-inside.new.bits
    (omega (arith, filled.same_length, c.self.inside.bits.ok.0))

pub fill-self-inside-requires-2-clause-within : goal.fill-self-inside-requires-2-clause-within
fill-self-inside-requires-2-clause-within g c =
    let bits = first g (goal.at.fill-self-inside-requires-2-clause-within g c).After-fill-self-inside in
    let filled = rw c.deref_mut.ensures.value at c.fill-self-inside.ensures.filled in
    let len = view_length c.self.invariant c.self.view_is in
    rw (c.deref_mut-3.ensures.value, bits)
    (omega (arith, c.requires, len, filled.same_length, c.self.invariant.within))

pub invariant_of-self : goal.invariant_of-self
invariant_of-self g c =
    let bits = first g (goal.at.invariant_of-self g c).After-fill-self-inside in
    let filled = rw c.deref_mut.ensures.value at c.fill-self-inside.ensures.filled in
    let fill = c.fill-self-inside-2 in
    let again = rw (c.deref_mut-3.ensures.value, bits) at fill.ensures.filled in
    let all = with_items_is (with_items c.self.inside.bits c.fill-self-inside.new.bits) fill.new.bits
    (omega (arith, again.same_length, filled.same_length, c.self.inside.bits.ok.0)) in
    let nodes = with_items_is (with_items c.self.inside.nodes c.fill-self-inside.new.nodes) fill.new.nodes (omega (
      arith,
      again.same_length,
      filled.same_length,
      fill.ensures.tree.node_count,
      c.self.invariant.tree.node_count,
      c.self.inside.nodes.ok.0,
    )) in
    let least : c.min-self-inside.result ≡ min (c.args.from / 64) (c.len.result - 1) = search rules in
    rw (all, nodes) (reset c.self.invariant c.self.view_is c.requires filled again fill.ensures.tree fill.ensures.few
    (omega (arith, c.len.ensures, c.self.inside.bits.ok.0, c.self.invariant.near_within)) (omega arith))

pub returns : goal.returns
returns g c =
    let bits = first g (goal.at.returns g c).After-fill-self-inside in
    let filled = rw c.deref_mut.ensures.value at c.fill-self-inside.ensures.filled in
    let fill = c.fill-self-inside-2 in
    let again = rw (c.deref_mut-3.ensures.value, bits) at fill.ensures.filled in
    let all = with_items_is (with_items c.self.inside.bits c.fill-self-inside.new.bits) fill.new.bits
    (omega (arith, again.same_length, filled.same_length, c.self.inside.bits.ok.0)) in
    rw all (view_reset c.self.invariant c.self.view_is c.requires filled again)
