use Rattle.std.proofs.Common.{refl, ap, arith}
use Rattle.job_memory.specs.JobBlocks.{JobBlocks}
use Rattle.job_memory.proofs.Booked.{booked_slot}
use Rattle.job_memory.proofs.JobMemory.rewrite_with.Goals as goal

pub rewrite_with-requires-clause-can : goal.rewrite_with-requires-clause-can
rewrite_with-requires-clause-can g c = rw (ap (λ (bs : JobBlocks). bs.memory) c.self.view_is) c.requires.can

pub invariant_of-self : goal.invariant_of-self
invariant_of-self g c =
    let e = c.rewrite_with.ensures in
    rw e.rewritten
    (booked_slot _ _ c.args.id _ c.self.invariant (grind arith) refl e.same_length)

pub returns : goal.returns
returns g c =
    let e = c.rewrite_with.ensures in
    record {
      words = e.words;
      same_length = grind (arith, e.same_length);
      so = rw (ap (λ (bs : JobBlocks). bs.memory) c.self.view_is) at e.so;
      rewritten = grind (arith, e.rewritten);
    }
