use Rattle.job_machine.proofs.TurnLemmas.{parts, slot_in}
use Rattle.job_machine.proofs.machine.Machine.slot.Goals as goal

pub returns : goal.returns
returns g c =
    slot_in c.shown_is_alone.ensures (parts c.self.inside) c.args.job c.in_ok-place.place c.index.result.now
    c.self.invariant c.used-used.ensures.tidy c.self.view_is c.place.ensures c.in_ok-place.was c.index.ensures
