-- The laws of the blocks of jobs, as the public module `laws` promises them.
use Rattle.std.specs.Prelude.{◌≡◌, ℕ, ℤ, ◌<◌, List, length, All, Option}
use Rattle.refcounts.specs.SharedState.{empty_slot, slot_at, slot_in, state_after_shares, state_after_releases}
use Rattle.job_memory.specs.JobBlocks.{JobBlocks, IsJob, AreOwn, ChangesOnlyOf, own_slots, with_grant, with_memory}
use Rattle.job_memory.specs.JobBlocks.{with_block}

abbrev pub GrantsChangeOnlyTheirJob : Type 0
GrantsChangeOnlyTheirJob = (blocks : JobBlocks) (job : ℕ) (grant : Option ℕ) → IsJob blocks job
    → ChangesOnlyOf job blocks (with_grant blocks job grant)

abbrev pub BlocksChangeOnlyTheirJob : Type 0
BlocksChangeOnlyTheirJob = (blocks : JobBlocks) (job id : ℕ) (words : List ℤ) → id < length blocks.memory.slots
    → slot_at blocks.memory id ≡ empty_slot → ChangesOnlyOf job blocks (with_block blocks job id words)

abbrev pub SharesChangeOnlyTheirJob : Type 0
SharesChangeOnlyTheirJob = (blocks : JobBlocks) (job : ℕ) (ids : List ℕ)
    → All (λ id. 0 < (slot_in (own_slots job blocks) id).count) ids
    → ChangesOnlyOf job blocks (with_memory blocks (state_after_shares blocks.memory ids))

abbrev pub ReleasesChangeOnlyTheirJob : Type 0
ReleasesChangeOnlyTheirJob = (blocks : JobBlocks) (job : ℕ) (ids : List ℕ) → AreOwn job blocks ids
    → ChangesOnlyOf job blocks (with_memory blocks (state_after_releases blocks.memory ids))

pub record AreJoined (job : ℕ) : Type 0 where
  pub none : (blocks : JobBlocks) → ChangesOnlyOf job blocks blocks
  pub both : (old between new : JobBlocks) → ChangesOnlyOf job old between → ChangesOnlyOf job between new
      → ChangesOnlyOf job old new

abbrev pub ChangesJoin : Type 0
ChangesJoin = (job : ℕ) → AreJoined job
