-- The nodes are joined before the tree is asked, and no word changes.
use Rattle.std.proofs.Common.{arith}
use Rattle.std.proofs.lemmas.List.{with_items_is}
use Rattle.holes.proofs.Regions.{view_widest, view_lowest, holes_joined}
use Rattle.holes.proofs.Holes.find.Goals as goal

pub returns-in-Some-clause-none : goal.returns-in-Some-clause-none
returns-in-Some-clause-none g c =
    let wide = view_widest c.self.invariant c.self.view_is in
    let found = rw c.deref.ensures.value at c.in-Some.ensures in
    grind arith

pub returns-in-Some-clause-lowest : goal.returns-in-Some-clause-lowest
returns-in-Some-clause-lowest g c =
    let wide = view_widest c.self.invariant c.self.view_is in
    let lowest = view_lowest c.self.invariant c.self.view_is c.args.len c.requires in
    let found = rw c.deref.ensures.value at c.in-Some.ensures in
    grind arith

pub invariant_of-self : goal.invariant_of-self
invariant_of-self g c =
    let nodes = with_items_is c.self.inside.nodes c.join_changed.new.nodes (grind arith) in
    let near = rw c.deref-3.ensures.value at c.later_near-self-inside.ensures in
    rw nodes (holes_joined c.self.invariant (rw c.deref-2.ensures.value at c.join_changed.ensures) near.within
    near.none_below)

pub returns-clause-none : goal.returns-clause-none
returns-clause-none g c =
    let wide = view_widest c.self.invariant c.self.view_is in
    rw (← wide) (rw c.deref-5.ensures.value at c.find.ensures.none)

pub returns-clause-lowest : goal.returns-clause-lowest
returns-clause-lowest g c =
    let wide = view_widest c.self.invariant c.self.view_is in
    let lowest = view_lowest c.self.invariant c.self.view_is c.args.len c.requires in
    let found = rw c.deref-5.ensures.value at c.find.ensures in
    grind arith
