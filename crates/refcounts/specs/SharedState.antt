-- What a memory of counted blocks contains: at each block number a block with its owner, count and words, or nothing.
use Rattle.std.specs.Prelude.{◌≡◌, ℕ, ℤ, ◌+◌, ◌-◌, ◌<◌, ◌≤◌, ◌==◌, nat_le, nat_lt, if◌then◌else◌, List, [], ◌∷◌}
use Rattle.std.specs.Prelude.{length, sum_by, count_by, slice_index_or, slice_set, All}

-- a block: whose it is, how many references name it, and its words
pub record Slot : Type 0 where
  pub owner : ℕ
  pub count : ℕ
  pub words : List ℤ

-- no block: the one slot that no reference names
abbrev pub empty_slot : Slot
empty_slot = record { owner = 0; count = 0; words = [] }

-- a memory: how many words fit, and its slots by block number
pub record SharedState : Type 0 where
  pub room : ℕ
  pub slots : List Slot

-- the slot of a number in a list of slots, past the end none
abbrev pub slot_in : List Slot → ℕ → Slot
slot_in slots id = slice_index_or slots id empty_slot

-- the slot of a number
abbrev pub slot_at : SharedState → ℕ → Slot
slot_at memory id = slot_in memory.slots id

-- a block is there
abbrev pub IsLive : SharedState → ℕ → Type 0
IsLive memory id = 0 < (slot_at memory id).count

-- a number that no reference names has no block
abbrev pub IsTidy : SharedState → Type 0
IsTidy memory = (id : ℕ) → (slot_at memory id).count ≡ 0 → slot_at memory id ≡ empty_slot

-- the words of all blocks
abbrev pub words_in : List Slot → ℕ
words_in slots = sum_by (λ slot. length slot.words) slots

abbrev pub used_words : SharedState → ℕ
used_words memory = words_in memory.slots

-- how many blocks there are
abbrev pub blocks_in : List Slot → ℕ
blocks_in slots = count_by (λ slot. nat_lt 0 slot.count) slots

abbrev pub block_count : SharedState → ℕ
block_count memory = blocks_in memory.slots

-- the memory with this slot at a number, and every other slot as it was
abbrev pub with_slot : SharedState → ℕ → Slot → SharedState
with_slot memory id slot = record { room = memory.room; slots = slice_set memory.slots id slot }

-- a new block, which one reference names
abbrev pub new_slot : ℕ → List ℤ → Slot
new_slot owner words = record { owner = owner; count = 1; words = words }

-- a block with one reference more
abbrev pub raised_slot : Slot → Slot
raised_slot slot = record { owner = slot.owner; count = slot.count + 1; words = slot.words }

-- a block with one reference less: none if it was the last
abbrev pub lowered_slot : Slot → Slot
lowered_slot slot =
    if nat_le slot.count 1 then empty_slot else
    record { owner = slot.owner; count = slot.count - 1; words = slot.words }

-- the memory after a block was shared, and after it was released
abbrev pub state_after_share : SharedState → ℕ → SharedState
state_after_share memory id = with_slot memory id (raised_slot (slot_at memory id))

abbrev pub state_after_release : SharedState → ℕ → SharedState
state_after_release memory id = with_slot memory id (lowered_slot (slot_at memory id))

-- the memory after blocks were shared one by one, and after they were released one by one
abbrev pub state_after_shares : SharedState → List ℕ → SharedState
state_after_shares memory [] = memory
state_after_shares memory (id ∷ ids) = state_after_shares (state_after_share memory id) ids

abbrev pub state_after_releases : SharedState → List ℕ → SharedState
state_after_releases memory [] = memory
state_after_releases memory (id ∷ ids) = state_after_releases (state_after_release memory id) ids

-- how often a number is listed
abbrev pub occurrences : ℕ → List ℕ → ℕ
occurrences id ids = count_by (λ other. other == id) ids

-- each listed block is there
abbrev pub AreLive : SharedState → List ℕ → Type 0
AreLive memory ids = All (λ id. IsLive memory id) ids

-- each block is listed at most as often as references name it
abbrev pub AreNamed : SharedState → List ℕ → Type 0
AreNamed memory ids = (id : ℕ) → occurrences id ids ≤ (slot_at memory id).count
