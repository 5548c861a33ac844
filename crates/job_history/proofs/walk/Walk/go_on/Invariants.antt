use Rattle.job_history.specs.Sound.{HasGone}
use Rattle.job_history.proofs.walk.Walk.go_on.Given as goal

abbrev pub invariant-loop : goal.invariant-loop
invariant-loop g l = HasGone l.counter l.fn.self.run l.fn.self.at l.self.run l.self.at
