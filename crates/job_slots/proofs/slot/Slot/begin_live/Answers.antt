-- A live job begins its next step, or it ends before that step.
use Rattle.std.proofs.Common.{◌≡◌, Some, sym, subst}
use Rattle.job_steps.specs.States.{ruled}
use Rattle.job_slots.specs.Answers.{IsAskedOf, early_end_at}
use Rattle.job_slots.specs.Slots.{IsActive}
use Rattle.job_slots.proofs.InPlace.{may_end}
use Rattle.job_slots.proofs.NextSteps.{is_ending}
use Rattle.job_slots.proofs.Standings.{runs, shows_flying}
use Rattle.job_slots.proofs.slot.Slot.begin_live.Given.{Over}
use Rattle.job_slots.proofs.slot.Slot.begin_live.Goals as goal
use Rattle.job_slots.proofs.slot.Slot.begin_live.Goals.{In-Ok, In-Err}

-- ---- the job ends

halts : (g : Over) (c : goal.In-Err g) → early_end_at (ruled c.args.turn.rule c.args.job.now)
    c.args.self.now.trace.executed ≡ Some c.in-Err.halted.ending
halts g c = rw (← c.self.view_is) c.in-Err.ensures.0

pub end-requires : goal.end-requires
end-requires g c =
    let at = (goal.at.end-requires g c).In-Err in
    let ending = is_ending c.early_ends_end.ensures _ _ _ (runs _ _ _ _ c.requires.shows c.requires.live) _
    c.requires.shows.verified (halts g at) in
    assumption (may_end _ _ _ _ c.requires.shows (subst IsActive (sym c.requires.live) tt), ending)

-- ---- the step begins

asked : (g : Over) (c : goal.In-Ok g) → IsAskedOf c.args.turn.number c.args.desk (ruled c.args.turn.rule c.args.job.now)
    c.args.self.now.trace.executed c.in-Ok.ticket
asked g c = rw (← c.self.view_is) c.in-Ok.ensures

pub returns-in-Ok-clause-shows : goal.returns-in-Ok-clause-shows
returns-in-Ok-clause-shows g c =
    let at = (goal.at.returns-in-Ok-clause-shows g c).In-Ok in
    rw (← c.self.view_is) at (shows_flying _ _ _ _ c.requires.shows c.requires.live (asked g at).goes_on)
