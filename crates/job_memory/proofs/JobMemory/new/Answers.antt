use Rattle.std.proofs.Common.{sym}
use Rattle.job_memory.proofs.Booked.{booked_first}
use Rattle.job_memory.proofs.JobMemory.new.Goals as goal

pub invariant_of-result : goal.invariant_of-result
invariant_of-result g c =
    rw (c.in_ok-memory-2.ensures, c.in_ok-book.ensures)
    (booked_first _ _ c.args.jobs _ (sym c.in_ok-memory.ensures.size))
