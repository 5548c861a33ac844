use Rattle.std.proofs.Common.{◌≡◌, false, ◌+◌, ◌-◌, ◌≤◌, take, length}
use Rattle.std.specs.Io.KnownBytes.{Appends}
use Rattle.batch_front.specs.declared.device.TheConstants.{MOST_INTERRUPTIONS}
use Rattle.batch_front.proofs.transfer.write_bytes.Given as goal

abbrev pub invariant-writes : goal.invariant-writes
invariant-writes g l = record {
  bytes : Appends (g.W.Write.contents l.fn.writer.inner) (g.W.Write.contents l.writer.inner) (take l.done l.bytes);
  not_failed : l.writer.failed ≡ false;
  few : l.writer.interrupts + l.spent ≤ MOST_INTERRUPTIONS;
  room : l.done ≤ length l.bytes;
}

abbrev pub decreases-writes : goal.decreases-writes
decreases-writes g l = (length l.bytes - l.done) + (MOST_INTERRUPTIONS - l.writer.interrupts)
