-- The laws of memories of counted blocks, as the public module `laws` promises them.
use Rattle.std.specs.Prelude.{◌≡◌, ℕ, ℤ, ◌+◌, ◌<◌, ◌≤◌, List, length, All}
use Rattle.refcounts.specs.SharedState.{SharedState, empty_slot, slot_in, slot_at, IsLive, IsTidy, with_slot}
use Rattle.refcounts.specs.SharedState.{new_slot, state_after_release, state_after_shares, state_after_releases}
use Rattle.refcounts.specs.SharedState.{occurrences, AreLive, AreNamed, used_words, block_count}
use Rattle.refcounts.specs.Owners.{slots_seen_by, ChangesOnly}

-- the block of the number is there, and the owner's
abbrev pub IsOwn : ℕ → SharedState → ℕ → Type 0
IsOwn owner memory id = 0 < (slot_in (slots_seen_by owner memory) id).count

-- what an owner makes, shares and releases changes only the owner's blocks
abbrev pub MakingChangesOnlyOwn : Type 0
MakingChangesOnlyOwn = (owner : ℕ) (memory : SharedState) (id : ℕ) (words : List ℤ) → id < length memory.slots
    → slot_at memory id ≡ empty_slot → ChangesOnly owner memory (with_slot memory id (new_slot owner words))

abbrev pub SharingChangesOnlyOwn : Type 0
SharingChangesOnlyOwn = (owner : ℕ) (memory : SharedState) (ids : List ℕ) → All (λ id. IsOwn owner memory id) ids
    → ChangesOnly owner memory (state_after_shares memory ids)

abbrev pub ReleasingChangesOnlyOwn : Type 0
ReleasingChangesOnlyOwn = (owner : ℕ) (memory : SharedState) (ids : List ℕ)
    → ((id : ℕ) → occurrences id ids ≤ (slot_in (slots_seen_by owner memory) id).count)
    → ChangesOnly owner memory (state_after_releases memory ids)

-- blocks that are shared one by one have as many references more as they are listed, and nothing else changes
abbrev pub SharesAreCounted : Type 0
SharesAreCounted = (memory : SharedState) (ids : List ℕ) (id : ℕ) → AreLive memory ids
    → slot_at (state_after_shares memory ids) id ≡ record {
      owner = (slot_at memory id).owner;
      count = (slot_at memory id).count + occurrences id ids;
      words = (slot_at memory id).words;
    }

-- blocks that are released one by one, each at most as often as references name it, have as many references less as
-- they
-- are listed; those that are left keep owner and words
abbrev pub ReleasesAreCounted : Type 0
ReleasesAreCounted = (memory : SharedState) (ids : List ℕ) (id : ℕ) → AreNamed memory ids
    → (slot_at (state_after_releases memory ids) id).count + occurrences id ids ≡ (slot_at memory id).count

abbrev pub ReleasesKeepBlocks : Type 0
ReleasesKeepBlocks = (memory : SharedState) (ids : List ℕ) (id : ℕ) → AreNamed memory ids
    → occurrences id ids < (slot_at memory id).count
    → ((slot_at (state_after_releases memory ids) id).owner ≡ (slot_at memory id).owner)
    × ((slot_at (state_after_releases memory ids) id).words ≡ (slot_at memory id).words)

-- what is released leaves no more words in use, and no more blocks
abbrev pub ReleasesOnlyFree : Type 0
ReleasesOnlyFree = (memory : SharedState) (ids : List ℕ) → AreNamed memory ids
    → (used_words (state_after_releases memory ids) ≤ used_words memory)
    × (block_count (state_after_releases memory ids) ≤ block_count memory)

-- a release leaves a tidy memory tidy
abbrev pub ReleaseStaysTidy : Type 0
ReleaseStaysTidy =
    (memory : SharedState) (id : ℕ) → IsLive memory id → IsTidy memory → IsTidy (state_after_release memory id)
