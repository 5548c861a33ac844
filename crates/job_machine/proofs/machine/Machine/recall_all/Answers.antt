use Rattle.std.proofs.Common.{arith}
use Rattle.job_machine.proofs.RunningOut.{recalled_next}
use Rattle.job_machine.proofs.machine.Machine.recall_all.Goals as goal

pub loop-place-preserved : goal.loop-place-preserved
loop-place-preserved g c =
    recalled_next _ _ _ c.loop-place.place _ (omega arith) c.loop-place.invariant c.recall.ensures.state
