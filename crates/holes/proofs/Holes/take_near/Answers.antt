-- What is left after one word was taken at hand is what the contract says.
use Rattle.std.proofs.Common.{rules, ◌≡◌, ◌≤◌, inl, arith, ◌∙◌}
use Rattle.std.proofs.lemmas.List.{with_items_is}
use Rattle.holes.specs.FreeWords.{widest}
use Rattle.holes.specs.Tree.{lowest_fit}
use Rattle.holes.proofs.Trees.{tree_filled}
use Rattle.holes.proofs.Regions.{taken_within, taken_some, taken, view_filled, view_widest, view_lowest}
use Rattle.holes.proofs.Holes.take_near.Given as given
use Rattle.holes.proofs.Holes.take_near.Goals as goal
use Rattle.holes.proofs.Holes.take_near.Goals.{In_ok-place}

-- the word is the lowest fit of the words that callers see
lowest : (g : given.Over) (c : In_ok-place g) →
    (1 ≤ widest c.args.self.now.free) × (c.in_ok-place.place ≡ lowest_fit 1 c.args.self.now.free)
lowest g c =
    let found = rw c.deref_mut.ensures.value at c.in_ok-place.ensures in
    let fits : 1 ≤ widest c.args.self.now.free =
    omega (arith, found.free, view_widest c.self.invariant c.self.view_is) in
    (fits, found.lowest ∙ view_lowest c.self.invariant c.self.view_is 1 (omega arith) fits)

pub overflow_sub-self : goal.overflow_sub-self
overflow_sub-self g c =
    taken_some c.self.invariant c.self.view_is (omega arith) (lowest g c).0 (lowest g c).1

pub invariant_of-self-2 : goal.invariant_of-self-2
invariant_of-self-2 g c =
    let low = lowest g (goal.at.invariant_of-self-2 g c).In_ok-place in
    let found = rw c.deref_mut.ensures.value at c.in_ok-place.ensures in
    let bits = with_items_is c.self.inside.bits c.take_lowest.new.bits
    (omega (arith, found.taken.same_length, c.self.inside.bits.ok.0)) in
    let leaf = c.has.ensures (search rules) in
    rw bits (taken c.self.invariant c.self.view_is (omega arith) low.0 low.1 found.taken
    (tree_filled c.self.invariant.tree found.taken (omega (arith, leaf.0, found.bitmap))
    (omega (arith, leaf.1, found.bitmap)))
    c.self.invariant.few_changed c.self.invariant.near_within (λ word lt. inl (c.self.invariant.none_below word lt)))

pub returns-clause-fits : goal.returns-clause-fits
returns-clause-fits g c = (lowest g (goal.at.returns-clause-fits g c).In_ok-place).0

pub returns-clause-lowest : goal.returns-clause-lowest
returns-clause-lowest g c = (lowest g (goal.at.returns-clause-lowest g c).In_ok-place).1

pub returns-clause-taken : goal.returns-clause-taken
returns-clause-taken g c =
    let low = lowest g (goal.at.returns-clause-taken g c).In_ok-place in
    let found = rw c.deref_mut.ensures.value at c.in_ok-place.ensures in
    let bits = with_items_is c.self.inside.bits c.take_lowest.new.bits
    (omega (arith, found.taken.same_length, c.self.inside.bits.ok.0)) in
    rw bits (view_filled c.self.invariant c.self.view_is c.in_ok-place.place 1
    (taken_within c.self.invariant c.self.view_is (omega arith) low.0 low.1) found.taken)
