-- The demand that is answered is that of the next instruction, if nothing ends the job before it.
use Rattle.std.proofs.Common.{◌∙◌}
use Rattle.job_slots.proofs.NextSteps.{demand_is, has_operands, told_is}
use Rattle.job_slots.proofs.ticket.demand_of.Goals as goal

pub held_under-held-requires : goal.held_under-held-requires
held_under-held-requires g c =
    assumption (has_operands c.steps_can_begin.ensures c.held_is_counted.ensures c.args.turn.number c.args.blocks.now _
    _ c.requires.running c.requires.verified c.used-used.ensures.tidy _ _ c.read_next-next.ensures.next)

pub returns-clause-executed : goal.returns-clause-executed
returns-clause-executed g c none =
    c.demand_by.ensures ∙ demand_is c.steps_can_begin.ensures c.held_is_counted.ensures _ _ _ _ c.requires.running
    c.requires.verified c.used-used.ensures.tidy _ _ c.read_next-next.ensures.next _ c.held_under-held.ensures none

pub returns-clause-told : goal.returns-clause-told
returns-clause-told g c =
    c.demand_by.ensures ∙ told_is c.steps_can_begin.ensures c.held_is_counted.ensures _ _ _ _ c.requires.running
    c.requires.verified c.used-used.ensures.tidy _ _ c.read_next-next.ensures.next _ c.held_under-held.ensures
