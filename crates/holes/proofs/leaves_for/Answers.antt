use Rattle.std.proofs.Common.{arith, suc}
use Rattle.holes.proofs.leaves_for.Goals as goal

pub loop-leaves-preserved : goal.loop-leaves-preserved
loop-leaves-preserved c =
    let power = c.loop-leaves.invariant.power in
    record {
      power = (suc power.0, omega (arith, power.1));
      some = omega arith;
      few = omega (arith, c.div_ceil.ensures);
    }
