use Rattle.std.proofs.Common.{arith}
use Rattle.job_profile.proofs.Used.{uses_after}
use Rattle.job_profile.proofs.uses.Uses.step.Goals as goal

pub invariant_of-self : goal.invariant_of-self
invariant_of-self g c =
    uses_after c.steps_move.ensures c.self.inside.run c.self.invariant c.step-goes_on.ensures.run
    (grind arith) (grind arith)
