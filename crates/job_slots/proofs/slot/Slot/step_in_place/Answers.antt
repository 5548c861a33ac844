-- A step that computes in place of its operands is the next step of the job, or a value fault ends the job.
use Rattle.std.proofs.Common.{◌≡◌, ◌∙◌, refl, sym, ap, subst}
use Rattle.vcode_base.specs.declared.outcome.Outcome.TheVariants.{Fault}
use Rattle.job_steps.specs.States.{ruled}
use Rattle.job_steps.specs.Tickets.{question_by}
use Rattle.job_slots.specs.Answers.{EndsByStep}
use Rattle.job_slots.specs.InPlace.{operands_in}
use Rattle.job_slots.specs.Slots.{SlotState, IsActive}
use Rattle.job_slots.proofs.Standings.{executed_inside, took, ended_by, ends_by_fault, is_flying, runs}
use Rattle.job_slots.proofs.InPlace.{may_end, may_end_still}
use Rattle.job_slots.proofs.slot.Slot.step_in_place.Given.{Over}
use Rattle.job_slots.proofs.slot.Slot.step_in_place.Goals as goal
use Rattle.job_slots.proofs.slot.Slot.step_in_place.Goals.{In-Err}

pub execute_in_place-requires-clause-flying : goal.execute_in_place-requires-clause-flying
execute_in_place-requires-clause-flying g c =
    let can = c.requires.can in
    rw (← c.self.view_is) at (is_flying _ _ _ _ can.shows can.live c.requires.goes_on)

-- ---- the instruction is executed

pub returns-in-Ok-clause-steps : goal.returns-in-Ok-clause-steps
returns-in-Ok-clause-steps g c =
    took c.reached.ensures c.end_is_own.ensures _ _ _ _ _ c.requires.can c.requires.goes_on (record
    { status = c.self.inside.status; trace = c.execute_in_place.new.track; outcome = c.self.inside.outcome })
    (ap (λ (s : SlotState). s.status) c.self.view_is ∙ c.requires.can.live)
    (executed_inside _ _ c.args.self.now c.self.inside.track _ _ _ (ap (λ (s : SlotState). s.trace) c.self.view_is)
    c.in-Ok.ensures.after c.execute_in_place.ensures.limits c.in-Ok.ensures.others
    c.execute_in_place.ensures.same_grant) _ _
    (record { still = λ on. (c.in-Ok.ensures.goes_on, refl); ended = λ over. cc })

-- ---- the job ends by the values of its operands

-- the slot then is what it was
same_slot : (g : Over) (c : In-Err g) → record
    { status = c.self.inside.status; trace = c.execute_in_place.new.track; outcome = c.self.inside.outcome }
    ≡ c.args.self.now
same_slot g c = rw c.in-Err.ensures.unchanged c.self.view_is

ends : (g : Over) (c : In-Err g) → EndsByStep c.args.turn.number (ruled c.args.turn.rule c.args.job.now)
    c.args.self.now.trace.executed c.args.self.now.trace.peak (Fault c.in-Err.fault c.line_of_next-line.result)
ends g c =
    let p = c.args.placement in
    let can = c.requires.can in
    ends_by_fault c.others_are_ready.ensures c.end_is_own.ensures _ _ _ _ (runs _ _ _ _ can.shows can.live)
    (question_by p.op (operands_in c.args.blocks.now p.op c.args.self.now.trace.cells)) c.in-Err.fault
    c.line_of_next-line.result can.shows.verified c.requires.goes_on c.requires.placeable.question
    (rw (← c.self.view_is) c.in-Err.ensures.fault) (rw (← c.self.view_is) c.line_of_next-line.ensures)

pub end-requires-clause-may_end : goal.end-requires-clause-may_end
end-requires-clause-may_end g c =
    let before = may_end _ _ _ _ c.requires.can.shows (subst IsActive (sym c.requires.can.live) tt) in
    rw (← same_slot g (goal.at.end-requires-clause-may_end g c).In-Err) at
    (may_end_still _ _ _ _ _ before c.in-Err.ensures.kept c.execute_in_place.ensures.same_grant)

pub end-requires-clause-ending : goal.end-requires-clause-ending
end-requires-clause-ending g c =
    let at = (goal.at.end-requires-clause-ending g c).In-Err in
    rw (← same_slot g at) at (ends g at).is

pub returns-in-Err-clause-steps : goal.returns-in-Err-clause-steps
returns-in-Err-clause-steps g c =
    let ends = ends g (goal.at.returns-in-Err-clause-steps g c).In-Err in
    ended_by _ _ _ _ _ _ _ _ ends c.end.ensures.ended c.end.ensures.shows
    ((c.changes_join.ensures c.args.turn.number).both c.args.blocks.now c.execute_in_place.new.blocks c.end.new.blocks
    c.in-Err.ensures.kept.others c.end.ensures.others)
