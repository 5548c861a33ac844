use Rattle.std.proofs.Common.{◌≡◌, false, ◌+◌, ◌-◌, ◌≤◌}
use Rattle.batch_front.specs.declared.device.TheConstants.{MOST_INTERRUPTIONS}
use Rattle.batch_front.proofs.FeedLemmas.{HasFed}
use Rattle.batch_front.proofs.transfer.feed_all.Given as goal

abbrev pub invariant-reads : goal.invariant-reads
invariant-reads g l = record {
  fed : HasFed (g.R.Read.remaining l.fn.reader.inner) (g.R.Read.remaining l.reader.inner) l.feed l.left;
  region : l.feed.lines.region ≡ l.fn.feed.lines.region;
  not_failed : l.reader.failed ≡ false;
  few : l.reader.interrupts ≤ MOST_INTERRUPTIONS;
}

abbrev pub decreases-reads : goal.decreases-reads
decreases-reads g l = l.left + (MOST_INTERRUPTIONS - l.reader.interrupts)
