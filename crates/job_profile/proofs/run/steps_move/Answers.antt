use Rattle.job_profile.proofs.Moves.{moves}
use Rattle.job_profile.proofs.run.steps_move.Goals as goal

pub returns : goal.returns
returns c = moves c.early_ends_end.ensures c.others_are_ready.ensures c.never_stuck.ensures c.reached.ensures
