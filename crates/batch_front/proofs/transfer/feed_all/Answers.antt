-- The reader is fed to its end, or to one byte more than a batch may have, and is read no further.
use Rattle.std.proofs.Common.{arith, rules}
use Rattle.std.proofs.lemmas.Grind.{common_steps}
use Rattle.batch_front.proofs.FeedLemmas.{fed_more, fed_no_further, fed_to_end, fed_to_limit, read_no_further}
use Rattle.batch_front.proofs.transfer.feed_all.Goals as goal

pub returns-in-Ok-eq0 : goal.returns-in-Ok-eq0
returns-in-Ok-eq0 g c =
    let read = c.in-Ok-eq0.ensures.bytes in
    let none = c.in-Ok-eq0.field-0-test in
    let fed = fed_to_end _ _ _ _ _ _ _ c.reads.invariant.fed read.0 none (read.1 none (grind (arith, common_steps))) in
    grind (arith, fed)

pub returns-in_err-feed-in-Ok-clause-read : goal.returns-in_err-feed-in-Ok-clause-read
returns-in_err-feed-in-Ok-clause-read g c =
    let read = c.in-Ok.ensures in
    grind (
      arith,
      read_no_further _ _ _ _ _ _ _ c.reads.invariant.fed read.bytes.0 read.within (grind (arith, common_steps)),
    )

pub reads-preserved-in-Ok : goal.reads-preserved-in-Ok
reads-preserved-in-Ok g c = record {
  fed = fed_more _ _ _ _ _ _ _ _ _ c.reads.invariant.fed c.in-Ok.ensures.bytes.0 c.in-Ok.ensures.within
      (grind (arith, common_steps)) c.in_ok-feed-in-Ok.ensures.fed;
  region = search rules;
  not_failed = search rules;
  few = search rules;
}

pub returns-then-interrupts-gt-MOST_INTERRUPTIONS-clause-read :
    goal.returns-then-interrupts-gt-MOST_INTERRUPTIONS-clause-read
returns-then-interrupts-gt-MOST_INTERRUPTIONS-clause-read g c =
    grind (arith, fed_no_further _ _ _ _ _ c.reads.invariant.fed c.in-Err-Interrupted.ensures.bytes)

pub returns-in-Err-Failed-clause-read : goal.returns-in-Err-Failed-clause-read
returns-in-Err-Failed-clause-read g c =
    grind (arith, fed_no_further _ _ _ _ _ c.reads.invariant.fed c.in-Err-Failed.ensures.bytes)

pub returns : goal.returns
returns g c =
    let fed = fed_to_limit _ _ _ _ c.reads.invariant.fed (omega (arith, c.reads-test.false)) in
    grind (arith, fed)
