use Rattle.job_slots.proofs.Standings.{active_inside}
use Rattle.job_slots.proofs.slot.Slot.function.Goals as goal

pub function-requires : goal.function-requires
function-requires g c =
    rw (c.program.ensures.same, c.verified.ensures.same)
    (active_inside c.steps_can_begin.ensures _ _ _ _ _ c.self.view_is c.requires)
