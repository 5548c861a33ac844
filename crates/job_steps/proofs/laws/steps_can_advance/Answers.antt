use Rattle.job_steps.proofs.StepLemmas.{steps_can_advance}
use Rattle.job_steps.proofs.laws.steps_can_advance.Goals as goal

pub returns : goal.returns
returns g c = steps_can_advance c.reached.ensures c.values_have_kinds.ensures g.row.C.Denot
