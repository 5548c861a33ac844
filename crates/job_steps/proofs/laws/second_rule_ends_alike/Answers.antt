use Rattle.job_steps.proofs.OtherRuns.{second_rule_ends_alike}
use Rattle.job_steps.proofs.laws.second_rule_ends_alike.Goals as goal

pub returns : goal.returns
returns c = second_rule_ends_alike
