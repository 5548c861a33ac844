-- The blocks of jobs over one region, and the words that each job was granted.
use Rattle.std.specs.Prelude.{◌≡◌, ◌≢◌, ℕ, ℤ, ◌+◌, ◌-◌, ◌≤◌, List, length, sum_by, slice_index_or, slice_set, Option}
use Rattle.std.specs.Prelude.{Some, None}
use Rattle.refcounts.specs.SharedState.{Slot, SharedState, slot_in, words_in, with_slot, new_slot, occurrences}
use Rattle.refcounts.specs.Owners.{slots_seen_by, ChangesOnly}

-- the counted blocks, each with the job that owns it, and at each job's place the words that were granted to it, or
-- none; job 1 has the first place
pub record JobBlocks : Type 0 where
  pub memory : SharedState
  pub grants : List (Option ℕ)

-- the number is that of a job
abbrev pub IsJob : JobBlocks → ℕ → Type 0
IsJob blocks job = (1 ≤ job) × (job ≤ length blocks.grants)

-- the grant of a job
abbrev pub grant_of : JobBlocks → ℕ → Option ℕ
grant_of blocks job = slice_index_or blocks.grants (job - 1) None

abbrev pub words_of : Option ℕ → ℕ
words_of None = 0
words_of (Some words) = words

-- the words that are granted to all jobs together
abbrev pub granted_words : JobBlocks → ℕ
granted_words blocks = sum_by words_of blocks.grants

-- a job's own blocks, by number
abbrev pub own_slots : ℕ → JobBlocks → List Slot
own_slots job blocks = slots_seen_by job blocks.memory

-- the words of a job's blocks
abbrev pub held_words : ℕ → JobBlocks → ℕ
held_words job blocks = words_in (own_slots job blocks)

-- the job has a grant
abbrev pub HasGrant : JobBlocks → ℕ → Type 0
HasGrant blocks job = IsJob blocks job × ((words : ℕ) × (grant_of blocks job ≡ Some words))

-- the same blocks with another grant of a job
abbrev pub with_grant : JobBlocks → ℕ → Option ℕ → JobBlocks
with_grant blocks job grant = record { memory = blocks.memory; grants = slice_set blocks.grants (job - 1) grant }

-- the same grants with other blocks
abbrev pub with_memory : JobBlocks → SharedState → JobBlocks
with_memory blocks memory = record { memory = memory; grants = blocks.grants }

-- a new block of a job
abbrev pub with_block : JobBlocks → ℕ → ℕ → List ℤ → JobBlocks
with_block blocks job id words = with_memory blocks (with_slot blocks.memory id (new_slot job words))

-- references name the job's blocks at least as often as they are listed
abbrev pub AreOwn : ℕ → JobBlocks → List ℕ → Type 0
AreOwn job blocks ids = (id : ℕ) → occurrences id ids ≤ (slot_in (own_slots job blocks) id).count

-- only one job's blocks and grant changed
pub record ChangesOnlyOf (job : ℕ) (old new : JobBlocks) : Type 0 where
  pub memory : ChangesOnly job old.memory new.memory
  pub grants : (other : ℕ) → 1 ≤ other → other ≢ job → grant_of new other ≡ grant_of old other
  pub granted : granted_words new + words_of (grant_of old job) ≡ granted_words old + words_of (grant_of new job)
  pub jobs : length new.grants ≡ length old.grants
