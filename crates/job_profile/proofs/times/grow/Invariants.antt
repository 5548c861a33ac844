use Rattle.std.proofs.Common.{◌≤◌, length}
use Rattle.job_profile.specs.Sound.{CountAlike}
use Rattle.job_profile.proofs.times.grow.Given as goal

abbrev pub invariant-loop : goal.invariant-loop
invariant-loop g l = record {
  alike : CountAlike l.fn.times.items l.times.items;
  long : l.counter ≤ length l.times.items;
}
