use Rattle.std.proofs.Common.{◌≡◌, length, take}
use Rattle.job_steps.specs.Standings.{sum_over, executed_at}
use Rattle.step_scheduler.proofs.counts.executed_in_all.Given as goal

abbrev pub invariant-loop-place : goal.invariant-loop-place
invariant-loop-place g l = record {
  end : l.place-end ≡ length l.machine.tasks;
  sum : l.sum ≡ sum_over executed_at (take l.place l.machine.tasks) (take l.place l.machine.standings);
}
