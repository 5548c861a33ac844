use Rattle.job_slots.proofs.Standings.{ends_early, runs_inside}
use Rattle.job_slots.proofs.slot.Slot.end_early.Goals as goal

pub end_by_step-requires-clause-ends : goal.end_by_step-requires-clause-ends
end_by_step-requires-clause-ends g c =
    let can = c.requires.can in
    let run = runs_inside _ _ _ _ _ c.self.view_is can.shows can.live in
    rw (← c.self.view_is) (ends_early c.early_ends_end.ensures _ _ _ _ run c.in-Err.ending can.shows.verified
    c.in-Err.ensures)
