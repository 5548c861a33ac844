use Rattle.std.proofs.Common.{arith, rules}
use Rattle.job_machine.proofs.TurnLemmas.{lent_shows, lent_sound, lent_standing, lent_stepped, lent_task, missing}
use Rattle.job_machine.proofs.machine.Machine.step.Goals as goal

pub step-requires-clause-shows : goal.step-requires-clause-shows
step-requires-clause-shows g c = search (rules, lent_shows)

pub invariant_of-self : goal.invariant_of-self
invariant_of-self g c = search (rules, lent_sound)

pub returns-clause-answer : goal.returns-clause-answer
returns-clause-answer g c = grind (arith, lent_task, lent_standing)

pub returns-clause-state : goal.returns-clause-state
returns-clause-state g c = grind (arith, lent_stepped)

pub returns-in_default-clause-answer : goal.returns-in_default-clause-answer
returns-in_default-clause-answer g c =
    rw (missing _ c.args.job c.self.invariant c.self.view_is c.place.ensures c.in_default.is).no_task tt
