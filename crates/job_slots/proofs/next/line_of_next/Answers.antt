use Rattle.job_slots.proofs.NextSteps.{can_begin, line_is}
use Rattle.job_slots.proofs.next.line_of_next.Goals as goal

pub returns : goal.returns
returns g c =
    line_is _ _ _ c.next_line.result c.requires.running.running
    (can_begin c.steps_can_begin.ensures _ _ _ c.requires.running c.requires.verified) c.next_line.ensures
