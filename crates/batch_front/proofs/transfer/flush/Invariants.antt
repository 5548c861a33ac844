use Rattle.std.proofs.Common.{◌≡◌, false, ◌+◌, ◌-◌, ◌≤◌}
use Rattle.std.specs.Io.KnownBytes.{Keeps}
use Rattle.batch_front.specs.declared.device.TheConstants.{MOST_INTERRUPTIONS}
use Rattle.batch_front.proofs.transfer.flush.Given as goal

abbrev pub invariant-flushes : goal.invariant-flushes
invariant-flushes g l = record {
  bytes : Keeps (g.W.Write.contents l.fn.writer.inner) (g.W.Write.contents l.writer.inner);
  not_failed : l.writer.failed ≡ false;
  few : l.writer.interrupts + l.spent ≤ MOST_INTERRUPTIONS;
}

abbrev pub decreases-flushes : goal.decreases-flushes
decreases-flushes g l = MOST_INTERRUPTIONS - l.writer.interrupts
