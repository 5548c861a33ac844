use Rattle.std.proofs.Common.{sym, subst}
use Rattle.job_steps.specs.States.{ruled}
use Rattle.job_slots.specs.Slots.{SlotState, Shows}
use Rattle.job_slots.proofs.Standings.{live_slot, shows_admitted}
use Rattle.job_slots.proofs.slot.Slot.admit.Goals as goal

pub returns-clause-shows : goal.returns-clause-shows
returns-clause-shows g c =
    let job = ruled c.args.turn.rule c.args.job.now in
    subst (λ (s : SlotState). Shows c.args.turn.number c.grant.new.self job (live_slot s)) (sym c.self.view_is)
    (rw (c.in_ok-grant.ensures.granted, c.limits.ensures) (shows_admitted _ _ job _ c.requires.shows c.requires.waits))
