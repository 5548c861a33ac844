-- The lowest fit of one word is the lowest free word.
use Rattle.std.proofs.Common.{Some, arith}
use Rattle.holes.proofs.Runs.{lowest_free-fit, lowest_free-none}
use Rattle.holes.proofs.Near.{found_near_if, none_near}
use Rattle.holes.proofs.Regions.{view_length, view_widest, view_lowest}
use Rattle.holes.proofs.Holes.lowest_free.Goals as goal

pub returns-in-Some : goal.returns-in-Some
returns-in-Some g c =
    let i = c.self.invariant in
    let found = rw c.deref.ensures.value at c.in-Some.ensures in
    let wide = view_widest i c.self.view_is in
    let seen =
    found_near_if (Some c.in-Some.place) c.self.inside.bits.items 1 c.self.inside.near c.len.result (omega arith)
    (grind arith) (grind arith) i.none_below found.none.1 found.lowest in
    let lowest = view_lowest i c.self.view_is 1 (omega arith) in
    grind (arith, lowest_free-fit)

pub returns-in-None : goal.returns-in-None
returns-in-None g c =
    let i = c.self.invariant in
    let short = rw c.deref.ensures.value at c.in-None.ensures.none in
    let wide = view_widest i c.self.view_is in
    let len = view_length i c.self.view_is in
    grind (arith, lowest_free-none, none_near)
