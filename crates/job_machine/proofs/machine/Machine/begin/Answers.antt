use Rattle.std.proofs.Common.{arith, rules}
use Rattle.job_machine.proofs.TurnLemmas.{lent_begun, lent_shows, lent_sound, lent_standing, lent_task}
use Rattle.job_machine.proofs.machine.Machine.begin.Goals as goal

pub begin-requires : goal.begin-requires
begin-requires g c = search (rules, lent_shows)

pub invariant_of-self : goal.invariant_of-self
invariant_of-self g c = search (rules, lent_sound)

pub returns : goal.returns
returns g c = grind (arith, lent_begun, lent_task, lent_standing)
