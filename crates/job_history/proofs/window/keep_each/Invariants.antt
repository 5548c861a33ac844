use Rattle.job_history.proofs.Kepts.{IsKeeping}
use Rattle.job_history.proofs.window.keep_each.Given as goal

abbrev pub invariant-loop : goal.invariant-loop
invariant-loop g l =
    IsKeeping l.fn.walk.run.task l.counter l.walk.run l.walk.at l.mirror.entries.items l.window.first
    l.window.states.items
