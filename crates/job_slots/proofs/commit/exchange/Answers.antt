-- A new block comes in the place of the operands, in each way in which that is done.
use Rattle.std.proofs.Common.{◌≡◌, ◌∙◌, [], sym, arith}
use Rattle.std.proofs.lemmas.List.{reverse-reverse}
use Rattle.job_memory.specs.JobBlocks.{AreOwn}
use Rattle.job_slots.specs.Commits.{taken_ids}
use Rattle.job_slots.proofs.InPlace.{nothing_in, own_are_live, own_still, placed_and_released}
use Rattle.job_slots.proofs.InPlace.{released_and_placed}
use Rattle.job_slots.proofs.commit.exchange.Given.{Over}
use Rattle.job_slots.proofs.commit.exchange.Goals as goal
use Rattle.job_slots.proofs.commit.exchange.Goals.{After-top-operands, Then-is_empty}

operands_are : (g : Over) (c : After-top-operands g) →
    c.top-operands.result.now ≡ taken_ids c.args.op c.args.track.now.cells
operands_are g c = grind (arith, reverse-reverse)

own : (g : Over) (c : After-top-operands g) → AreOwn c.args.turn.number c.args.blocks.now c.top-operands.result.now
own g c = rw (operands_are g c) c.requires.own

-- ---- no operands

none : (g : Over) (c : Then-is_empty g) → taken_ids c.args.op c.args.track.now.cells ≡ []
none g c =
    sym (operands_are g (goal.at.Then-is_empty g c).After-top-operands)
    ∙ nothing_in c.top-operands.result.now (sym c.is_empty.ensures ∙ c.if-is_empty.true)

pub returns-then-is_empty : goal.returns-then-is_empty
returns-then-is_empty g c =
    assumption (released_and_placed (assumption) c.args.turn.rule _ _ [] _ _ _ _ c.place.ensures.fresh.0
    c.place.ensures.fresh.1 (sym (none g (goal.at.returns-then-is_empty g c).Then-is_empty)) c.place.ensures.placed
    c.requires.own)

-- ---- in the place of an operand that goes

pub dying-requires : goal.dying-requires
dying-requires g c =
    own_are_live c.args.turn.number c.args.blocks.now c.top-operands.result.now
    (own g (goal.at.dying-requires g c).After-top-operands)

pub returns-in-Some : goal.returns-in-Some
returns-in-Some g c =
    let at = (goal.at.returns-in-Some g c).After-top-operands in
    assumption (released_and_placed (assumption) c.args.turn.rule _ _ _ _ _ _ _ c.exchange_at.ensures.fresh.0
    c.exchange_at.ensures.fresh.1 (operands_are g at) c.exchange_at.ensures.exchanged c.requires.own)

-- ---- placed, then released

pub release_all-requires-clause-own : goal.release_all-requires-clause-own
release_all-requires-clause-own g c =
    let own : AreOwn c.args.turn.number c.place-id.new.blocks c.top-operands.result.now =
    own_still _ _ _ _ _ c.top-operands.result.now c.place-id.ensures.fresh.1 c.place-id.ensures.placed
    (own g (goal.at.release_all-requires-clause-own g c).After-top-operands) in
    λ id. omega (arith, own id)

pub returns-in-First : goal.returns-in-First
returns-in-First g c =
    let at = (goal.at.returns-in-First g c).After-top-operands in
    assumption (placed_and_released (assumption) c.args.turn.rule _ _ _ _ _ _ _ _ c.place-id.ensures.fresh.0
    c.place-id.ensures.fresh.1 c.place-id.ensures.placed (operands_are g at) c.release_all.ensures c.requires.own)

-- ---- released, then placed

pub returns-in-Second : goal.returns-in-Second
returns-in-Second g c =
    let at = (goal.at.returns-in-Second g c).After-top-operands in
    assumption (released_and_placed (assumption) c.args.turn.rule _ _ _ _ _ _ _ c.exchange.ensures.fresh.0
    c.exchange.ensures.fresh.1 (operands_are g at) c.exchange.ensures.exchanged c.requires.own)
