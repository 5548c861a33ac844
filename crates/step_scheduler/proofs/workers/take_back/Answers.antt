use Rattle.std.proofs.Common.{arith}
use Rattle.step_scheduler.proofs.workers.take_back.Goals as goal

pub returns-clause-counted : goal.returns-clause-counted
returns-clause-counted g c =
    let merged = c.in_ok-workers.ensures in
    let whole = c.audit.ensures.whole (omega (arith, merged.parts, c.requires.parts)) in
    omega (arith, c.into_parts-machine.ensures.counted, whole, merged.amount, c.requires.amount)
