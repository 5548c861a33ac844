use Rattle.std.proofs.Common.{◌≡◌}
use Rattle.job_lanes.proofs.lanes.adopt_all.Given as goal

abbrev pub invariant-loop-ended : goal.invariant-loop-ended
invariant-loop-ended g l = record {
  rule : l.machine.rule ≡ l.fn.machine.rule;
  tasks : l.machine.tasks ≡ l.fn.machine.tasks;
}
