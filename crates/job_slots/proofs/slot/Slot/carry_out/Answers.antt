use Rattle.std.proofs.Common.{◌∙◌, ap}
use Rattle.job_slots.specs.Slots.{SlotState}
use Rattle.job_slots.proofs.Standings.{executed_inside, took, is_flying}
use Rattle.job_slots.proofs.slot.Slot.carry_out.Goals as goal

pub execute-requires-clause-flying : goal.execute-requires-clause-flying
execute-requires-clause-flying g c =
    let can = c.requires.can in
    rw (← c.self.view_is) at (is_flying _ _ _ _ can.shows can.live c.requires.goes_on)

pub returns-clause-steps : goal.returns-clause-steps
returns-clause-steps g c =
    took c.reached.ensures c.end_is_own.ensures _ _ _ _ _ c.requires.can c.requires.goes_on (record
    { status = c.self.inside.status; trace = c.execute.new.track; outcome = c.self.inside.outcome })
    (ap (λ (s : SlotState). s.status) c.self.view_is ∙ c.requires.can.live)
    (executed_inside _ _ c.args.self.now c.self.inside.track _ _ _ (ap (λ (s : SlotState). s.trace) c.self.view_is)
    c.execute.ensures.after c.execute.ensures.limits c.execute.ensures.others c.execute.ensures.same_grant) _ _
    (record { still = c.go_on.ensures.on; ended = c.go_on.ensures.ended })
