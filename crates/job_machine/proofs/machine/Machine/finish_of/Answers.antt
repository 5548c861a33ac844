use Rattle.std.proofs.Common.{arith, rules}
use Rattle.job_machine.proofs.TurnLemmas.{lent_finished, lent_shows, lent_sound, lent_standing, lent_task, missing}
use Rattle.job_machine.proofs.machine.Machine.finish_of.Goals as goal

pub finish-requires-clause-shows : goal.finish-requires-clause-shows
finish-requires-clause-shows g c = search (rules, lent_shows)

pub invariant_of-self : goal.invariant_of-self
invariant_of-self g c = search (rules, lent_sound)

pub finish-requires-clause-own : goal.finish-requires-clause-own
finish-requires-clause-own g c = grind (arith, lent_task)

pub returns : goal.returns
returns g c = record {
  answer = grind (arith, lent_task, lent_standing);
  desk = c.finish.ensures.desk;
  state = rw c.job-job.ensures at (lent_finished c.self.inside c.job-job.result _ _ c.self.invariant c.self.view_is
      c.place.ensures c.in-Some.is c.job_at.ensures c.index_mut-slot.ensures.value c.finish.new.blocks
      c.finish.new.self c.finish.ensures.others c.finish.result.0 c.finish.ensures.standing);
}

pub returns-in_default-clause-answer : goal.returns-in_default-clause-answer
returns-in_default-clause-answer g c =
    rw (
      ← c.job-job.ensures,
      (missing _ c.job-job.result c.self.invariant c.self.view_is c.place.ensures
          c.in_default.is).no_task,
    ) tt
