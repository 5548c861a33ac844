use Rattle.job_steps.proofs.Kept.{events_keep}
use Rattle.job_steps.proofs.laws.events_keep.Goals as goal

pub returns : goal.returns
returns c =
    λ region tasks each. events_keep c.reached.ensures region tasks each c.never_stuck.ensures c.each_ends.ensures
