-- A commit ends the job by a value fault.
use Rattle.std.proofs.Common.{ap}
use Rattle.job_slots.specs.Slots.{SlotState}
use Rattle.job_slots.proofs.Standings.{fault_commits}
use Rattle.job_slots.proofs.slot.Slot.commit.Goals as goal

pub end-requires-clause-ending : goal.end-requires-clause-ending
end-requires-clause-ending g c =
    assumption (fault_commits c.others_are_ready.ensures c.end_is_own.ensures _ _ _ _ _ _ _ _ c.requires.shows
    c.requires.flying c.requires.fits (ap (λ (s : SlotState). s.trace) c.self.view_is) c.in-Err.ensures
    c.line_of_next-line.ensures)
