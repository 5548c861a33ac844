use Rattle.std.proofs.Common.{◌∙◌}
use Rattle.job_slots.proofs.NextSteps.{need_is}
use Rattle.job_slots.proofs.ticket.need_of.Goals as goal

pub returns : goal.returns
returns g c =
    c.demand_by.ensures ∙ need_is c.steps_can_begin.ensures c.args.turn.number c.args.blocks.now _ _ c.requires.running
    c.requires.verified _ _ c.read_next-next.ensures.next
