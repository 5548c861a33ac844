use Rattle.job_history.specs.Sound.{IsPassed}
use Rattle.job_history.proofs.window.pass.Given as goal

abbrev pub invariant-loop : goal.invariant-loop
invariant-loop g l = IsPassed l.fn.walk.run.task l.counter l.walk.run l.walk.at l.mirror.entries.items
