-- What an instruction that was read needs is found, or the job ends before it.
use Rattle.std.proofs.Common.{◌≡◌, Some, sym, ◌∙◌, ap, arith}
use Rattle.job_steps.specs.States.{ruled}
use Rattle.job_steps.specs.Steps.{Ending}
use Rattle.job_slots.proofs.NextSteps.{asks_on, budget_end, ends_with, has_operands, number_is}
use Rattle.job_slots.proofs.ticket.needs_or_end.Given.{Over}
use Rattle.job_slots.proofs.ticket.needs_or_end.Goals as goal
use Rattle.job_slots.proofs.ticket.needs_or_end.Goals.{After-needs_beside}

pub returns-then-executed-limits : goal.returns-then-executed-limits
returns-then-executed-limits g c =
    let run = c.requires.running in
    grind (arith, budget_end (ruled c.args.turn.rule c.args.job.now) c.args.track.now run.state run.running run.at)

pub held_under-held-requires : goal.held_under-held-requires
held_under-held-requires g c =
    assumption (has_operands c.steps_can_begin.ensures c.held_is_counted.ensures c.args.turn.number c.args.blocks.now _
    _ c.requires.running c.requires.verified c.used-used.ensures.tidy _ _ c.requires.next)

unspent : (g : Over) (c : After-needs_beside g) → c.args.track.now.executed ≡ c.args.track.now.limits.budget → ⊥
unspent g c same = grind arith

pub returns-in-Err : goal.returns-in-Err
returns-in-Err g c =
    ends_with c.steps_can_begin.ensures c.held_is_counted.ensures _ _ _ _ c.requires.running c.requires.verified
    c.used-used.ensures.tidy _ _ c.requires.next _ _ _ c.held_under-held.ensures
    (unspent g (goal.at.returns-in-Err g c).After-needs_beside) c.line_of_next.ensures c.in-Err.ensures
    ∙ ap (λ (ending : Ending). Some ending) (sym c.at.ensures)

pub returns-in-Ok : goal.returns-in-Ok
returns-in-Ok g c =
    let numbered = number_is c.steps_can_begin.ensures c.held_is_counted.ensures c.args.turn.number c.args.blocks.now _
    _ c.requires.running c.requires.verified c.used-used.ensures.tidy _ _ c.requires.next in
    let goes_on = ends_with c.steps_can_begin.ensures c.held_is_counted.ensures _ _ _ _ c.requires.running
    c.requires.verified c.used-used.ensures.tidy _ _ c.requires.next _ _ _ c.held_under-held.ensures
    (unspent g (goal.at.returns-in-Ok g c).After-needs_beside) numbered c.in-Ok.ensures.1 in
    let words = rw c.held_under-held.ensures at c.in-Ok.ensures.0.words_are in
    let can_ask = asks_on c.steps_can_begin.ensures c.steps_can_advance.ensures _ _ _ c.requires.running _ _
    c.requires.verified c.requires.next goes_on in
    assumption (goes_on, c.in-Ok.ensures.0.lengths, words, can_ask)
