use Rattle.std.proofs.Common.{refl, arith}
use Rattle.job_memory.proofs.Booked.{booked_slot}
use Rattle.job_memory.proofs.JobMemory.rewrite.Goals as goal

pub invariant_of-self : goal.invariant_of-self
invariant_of-self g c =
    rw c.rewrite.ensures (booked_slot _ _ c.args.id _ c.self.invariant (grind arith) refl (grind arith))
