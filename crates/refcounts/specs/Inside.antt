-- How a memory of blocks and a list of counts form a memory of counted blocks.
use Rattle.std.specs.Prelude.{◌≡◌, ℕ, ◌-◌, ◌<◌, ◌≤◌, ◌++◌, List, [], ◌∷◌, length, replicate, slice_index, Option, Some}
use Rattle.std.specs.Prelude.{None}
use Rattle.block_memory.specs.Content.{Block, Content, block_at, IsLive}
use Rattle.refcounts.specs.SharedState.{Slot, empty_slot, SharedState}

-- a block with its count
abbrev pub slot_of : Option Block → ℕ → Slot
slot_of None count = empty_slot
slot_of (Some block) count = record { owner = block.owner; count = count; words = block.words }

-- the blocks with their counts. A number past the list of counts is named by no reference
abbrev pub slots_of : Content → List ℕ → List Slot
slots_of [] counts = []
slots_of (block ∷ blocks) [] = slot_of block 0 ∷ slots_of blocks []
slots_of (block ∷ blocks) (count ∷ counts) = slot_of block count ∷ slots_of blocks counts

-- the blocks of a memory of this size, with their counts
abbrev pub state_of : ℕ → Content → List ℕ → SharedState
state_of room content counts = record { room = room; slots = slots_of content counts }

-- the list of counts, made at least so long by counts of 0
abbrev pub lengthened : List ℕ → ℕ → List ℕ
lengthened counts len = counts ++ replicate (len - length counts) 0

-- the count of a number is above 0 exactly if the number has a block
pub record IsCounted (content : Content) (counts : List ℕ) : Type 0 where
  pub live : (id : ℕ) → IsLive content id → 0 < slice_index counts id
  pub gone : (id : ℕ) → block_at content id ≡ None → slice_index counts id ≡ 0

-- the blocks are counted, and there is room for the counts of all numbers
pub record HasCounts (content : Content) (counts : List ℕ) (capacity : ℕ) : Type 0 where
  pub counted : IsCounted content counts
  pub room : length content ≤ capacity
