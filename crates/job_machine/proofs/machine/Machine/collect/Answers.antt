-- A collection moves its job alone; refused, or without a job, it changes nothing.
use Rattle.std.proofs.Common.{refl, arith, rules}
use Rattle.job_steps.specs.declared.event.Event.TheVariants.{Collect}
use Rattle.job_machine.proofs.TurnLemmas.{lent_event, lent_returned, lent_shows, lent_sound, lent_standing, lent_still}
use Rattle.job_machine.proofs.TurnLemmas.{no_turn, parts}
use Rattle.job_machine.proofs.machine.Machine.collect.Goals as goal

pub collect-requires : goal.collect-requires
collect-requires g c = search (rules, lent_shows)

pub invariant_of-self : goal.invariant_of-self
invariant_of-self g c = search (rules, lent_sound)

pub returns-clause-answer : goal.returns-clause-answer
returns-clause-answer g c = grind (arith, lent_standing)

pub returns-clause-state : goal.returns-clause-state
returns-clause-state g c = grind (arith, lent_event)

pub returns-clause-unchanged : goal.returns-clause-unchanged
returns-clause-unchanged g c = grind (arith, lent_still)

pub returns-clause-returned : goal.returns-clause-returned
returns-clause-returned g c = grind (arith, lent_returned)

pub returns-in_default-clause-state : goal.returns-in_default-clause-state
returns-in_default-clause-state g c =
    no_turn (parts c.self.inside) c.args.job c.self.invariant c.self.view_is c.place.ensures
    (Collect c.args.job) refl c.in_default.is
