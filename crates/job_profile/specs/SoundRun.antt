-- When what a run keeps is that of its job.
use Rattle.std.specs.Prelude.{◌≡◌, ℕ, ◌+◌, ◌≤◌, length}
use Rattle.refcounts.specs.SharedState.{block_count, blocks_in}
use Rattle.job_memory.specs.JobBlocks.{JobBlocks, own_slots}
use Rattle.job_steps.specs.Standings.{Standing, Live, Ended, Collected}
use Rattle.job_steps.specs.States.{Task}
use Rattle.job_slots.specs.Slots.{SlotState, Shows, standing_of}
use Rattle.job_profile.specs.Walks.{RunState}

-- the run that a slot shows
abbrev pub run_by : Task → SlotState → RunState
run_by task slot = record { task = task; standing = standing_of slot }

-- the job was admitted, and no step of it has begun alone
abbrev pub IsAdmitted : Standing → Type 0
IsAdmitted (Live n) = Unit {0}
IsAdmitted Ended = Unit {0}
IsAdmitted Collected = Unit {0}
IsAdmitted _ = ⊥

-- The slot shows the job, which is the only one and has the number 1. All blocks are its own, and there is a number for
-- each that its cells can name, and for two more.
pub record IsSound (task : Task) (blocks : JobBlocks) (slot : SlotState) (desk : ℕ) : Type 0 where
  pub shows : Shows 1 blocks task slot
  pub admitted : IsAdmitted (standing_of slot)
  pub numbers : length blocks.memory.slots ≡ task.limits.cells + 2
  pub counted : block_count blocks.memory ≡ blocks_in (own_slots 1 blocks)
  pub enough : task.limits.words ≤ desk
