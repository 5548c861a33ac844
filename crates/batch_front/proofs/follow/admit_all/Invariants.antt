use Rattle.std.proofs.Common.{◌≡◌}
use Rattle.job_machine.specs.Workbench.{WorkbenchFits}
use Rattle.batch_front.specs.Turns.{after_admissions}
use Rattle.batch_front.proofs.follow.admit_all.Given as goal

abbrev pub invariant-loop : goal.invariant-loop
invariant-loop g l = record {
  state : l.machine ≡ after_admissions l.counter l.fn.machine;
  tasks : l.machine.tasks ≡ l.fn.machine.tasks;
  fit : WorkbenchFits l.machine l.workbench;
}
