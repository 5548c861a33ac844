use Rattle.job_profile.specs.Walks.{HasGoneOn}
use Rattle.job_profile.proofs.uses.Uses.go_on.Given as goal

abbrev pub invariant-loop : goal.invariant-loop
invariant-loop g l = HasGoneOn l.counter l.fn.self l.self
