-- A recall moves its job alone; without a job nothing changes.
use Rattle.std.proofs.Common.{refl, arith, rules}
use Rattle.job_steps.specs.declared.event.Event.TheVariants.{Recall}
use Rattle.job_machine.proofs.TurnLemmas.{no_turn, own_standing, parts, recalled_sound, recalled_state}
use Rattle.job_machine.proofs.machine.Machine.recall.Goals as goal

pub invariant_of-self : goal.invariant_of-self
invariant_of-self g c = search (rules, recalled_sound)

pub returns-clause-answer : goal.returns-clause-answer
returns-clause-answer g c = grind (arith, own_standing)

pub returns-clause-state : goal.returns-clause-state
returns-clause-state g c = grind (arith, recalled_state)

pub returns-in_default-clause-state : goal.returns-in_default-clause-state
returns-in_default-clause-state g c =
    no_turn (parts c.self.inside) c.args.job c.self.invariant c.self.view_is c.place.ensures
    (Recall c.args.job) refl c.in_default.is
