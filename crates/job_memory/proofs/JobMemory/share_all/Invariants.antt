use Rattle.std.proofs.Common.{◌≡◌, ◌+◌, ◌-◌, ◌^◌, ◌<◌, length, drop}
use Rattle.std.specs.Prelude.{All}
use Rattle.refcounts.specs.SharedState.{slot_at, AreLive, state_after_shares}
use Rattle.job_memory.proofs.JobMemory.share_all.Given as goal

abbrev pub invariant-loop-id : goal.invariant-loop-id
invariant-loop-id g l = record {
  rest : state_after_shares l.self.memory (drop l.id-index l.ids) ≡ state_after_shares l.initial.self.memory l.ids;
  grants : l.self.grants ≡ l.initial.self.grants;
  live : AreLive l.self.memory l.ids;
  few : All (λ id. (slot_at l.self.memory id).count + (length l.ids - l.id-index) < 2 ^ 64) l.ids;
}
