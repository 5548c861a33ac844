use Rattle.std.proofs.Common.{◌≡◌, ◌+◌, vec_len}
use Rattle.step_scheduler.proofs.shares.split_shares.Given as goal

abbrev pub invariant-loop-worker : goal.invariant-loop-worker
invariant-loop-worker g l = record {
  parts : l.all.parts + l._worker ≡ l.workers + 1;
  amount : l.all.amount ≡ 0;
  shares : vec_len l.shares ≡ l._worker;
}
