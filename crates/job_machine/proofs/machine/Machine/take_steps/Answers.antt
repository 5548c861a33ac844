-- A run of a job moves it alone, to where it isn't live any more; without a job nothing changes.
use Rattle.std.proofs.Common.{arith, rules, refl, ap}
use Rattle.job_machine.specs.Machines.{is_running}
use Rattle.job_machine.proofs.TurnLemmas.{lent_fits, lent_moved, lent_numbers, lent_runs, lent_shows, lent_sound}
use Rattle.job_machine.proofs.TurnLemmas.{missing, parts}
use Rattle.job_machine.proofs.machine.Machine.take_steps.Goals as goal

pub run_slot-requires : goal.run_slot-requires
run_slot-requires g c = record {
  shows = search (rules, lent_shows);
  numbers = search (rules, lent_numbers);
  enough = search (rules, lent_fits);
}

pub invariant_of-self : goal.invariant_of-self
invariant_of-self g c = search (rules, lent_sound)

pub returns : goal.returns
returns g c = record {
  ran = search (rules, lent_runs);
  over = grind (arith, lent_moved);
  desk = c.run_slot.ensures.desk;
}

pub returns-in_default : goal.returns-in_default
returns-in_default g c = record {
  ran = (0, refl);
  over = ap is_running (missing (parts c.self.inside) c.args.job c.self.invariant c.self.view_is c.place.ensures
      c.in_default.is).no_standing;
  desk = refl;
}
