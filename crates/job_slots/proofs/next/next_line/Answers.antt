use Rattle.job_slots.proofs.NextSteps.{can_begin}
use Rattle.job_slots.proofs.next.next_line.Goals as goal

pub function-requires : goal.function-requires
function-requires g c =
    let can = can_begin c.steps_can_begin.ensures _ _ _ c.requires.running c.requires.verified in
    rw (c.program.ensures.same, c.verified.ensures.same) can.active
