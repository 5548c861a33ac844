use Rattle.job_profile.proofs.Stops.{IsSeeking}
use Rattle.job_profile.proofs.uses.Uses.run_to.Given as goal

abbrev pub invariant-loop : goal.invariant-loop
invariant-loop g l = IsSeeking l.fn.stop l.fn.skip l.fn.self l.counter l.self l.left
