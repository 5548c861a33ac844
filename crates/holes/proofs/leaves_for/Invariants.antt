use Rattle.std.proofs.Common.{◌+◌, ◌-◌, ◌*◌, ◌<◌, ◌≤◌}
use Rattle.holes.specs.Tree.{IsPowerOfTwo}
use Rattle.holes.proofs.leaves_for.Given as goal

abbrev pub invariant-loop-leaves : goal.invariant-loop-leaves
invariant-loop-leaves l = record {
  power : IsPowerOfTwo l.leaves;
  some : 1 ≤ l.leaves;
  few : 128 * l.leaves < l.size + 256;
}

abbrev pub decreases-loop-leaves : goal.decreases-loop-leaves
decreases-loop-leaves l = l.size - l.leaves
