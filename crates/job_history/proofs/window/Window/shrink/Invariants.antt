use Rattle.job_history.specs.Kept.{IsBehind}
use Rattle.job_history.proofs.window.Window.shrink.Given as goal

abbrev pub invariant-loop : goal.invariant-loop
invariant-loop g l = IsBehind l.fn.self.first l.fn.self.states.items l.self.first l.self.states.items
