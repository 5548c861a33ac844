use Rattle.std.proofs.Common.{arith}
use Rattle.job_machine.proofs.TurnLemmas.{are_kept, all_verified}
use Rattle.job_machine.proofs.machine.Machine.jobs.Goals as goal

pub returns : goal.returns
returns g c =
    let slots = c.self.inside.slots.items in
    let tidy = c.used-used.ensures.tidy in
    record {
      count = rw (← c.self.view_is) (omega (arith, c.len.ensures, c.self.invariant.slots_are));
      few = rw (← c.self.view_is) c.self.invariant.few;
      verified = rw (← c.self.view_is) (all_verified c.self.inside.blocks _ slots c.self.invariant);
      fitting = rw (← c.self.view_is) c.self.invariant.fitting;
      kept = rw (← c.self.view_is) (are_kept c.shown_is_alone.ensures c.self.inside.blocks _ slots c.self.invariant tidy
          c.granted-granted.ensures.within);
    }
