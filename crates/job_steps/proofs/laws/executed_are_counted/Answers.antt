use Rattle.job_steps.proofs.Counted.{executed_are_counted, last_is_return}
use Rattle.job_steps.proofs.laws.executed_are_counted.Goals as goal

pub returns : goal.returns
returns c = record {
  counted = executed_are_counted c.results_have_needed_lengths.ensures;
  last = last_is_return;
}
