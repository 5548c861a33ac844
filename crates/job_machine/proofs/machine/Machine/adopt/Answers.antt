use Rattle.job_machine.proofs.LaneLemmas.{adopts}
use Rattle.job_machine.proofs.TurnLemmas.{parts}
use Rattle.job_machine.proofs.machine.Machine.adopt.Goals as goal

pub invariant_of-self : goal.invariant_of-self
invariant_of-self g c =
    (adopts (parts c.self.inside) c.args.ended.job _ c.self.invariant c.self.view_is c.in-Some.ensures.place
    c.others_are_shown.ensures c.changes_join.ensures c.args.ended.task c.into_slot.result c.in-Some.ensures.can
    c.into_slot.ensures).stays_sound

pub returns-clause-state : goal.returns-clause-state
returns-clause-state g c =
    (adopts (parts c.self.inside) c.args.ended.job _ c.self.invariant c.self.view_is c.in-Some.ensures.place
    c.others_are_shown.ensures c.changes_join.ensures c.args.ended.task c.into_slot.result c.in-Some.ensures.can
    c.into_slot.ensures).state
