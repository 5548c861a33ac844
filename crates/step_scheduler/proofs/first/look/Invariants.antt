use Rattle.std.proofs.Common.{◌≡◌}
use Rattle.step_scheduler.specs.Tallies.{Continues}
use Rattle.step_scheduler.proofs.first.look.Given as goal

abbrev pub invariant-loop-place : goal.invariant-loop-place
invariant-loop-place g l = record {
  continues : Continues l.fn.machine l.machine;
  desk : l.desk ≡ l.fn.desk;
}
