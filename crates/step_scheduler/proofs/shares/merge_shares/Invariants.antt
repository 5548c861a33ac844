use Rattle.std.proofs.Common.{◌≡◌, ◌+◌, vec_len}
use Rattle.std.specs.Prelude.{sum}
use Rattle.std.specs.Vec.Iter.{into_iter_len}
use Rattle.step_scheduler.proofs.shares.merge_shares.Given as goal

abbrev pub invariant-loop-share : goal.invariant-loop-share
invariant-loop-share g l = record {
  counts : vec_len l.counts + into_iter_len l.share-iterator ≡ vec_len l.fn.shares;
  parts : l.all.parts ≡ l.fn.all.parts + vec_len l.counts;
  amount : l.all.amount ≡ sum l.counts.items;
}
