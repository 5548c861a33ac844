use Rattle.std.proofs.Common.{◌≡◌}
use Rattle.step_scheduler.specs.Tallies.{Continues}
use Rattle.step_scheduler.proofs.first.look_at.Given as goal

abbrev pub invariant-loop : goal.invariant-loop
invariant-loop g l = record {
  continues : Continues l.fn.machine l.machine;
  desk : l.desk ≡ l.fn.desk;
}
