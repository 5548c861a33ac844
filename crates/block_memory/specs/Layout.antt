-- Where the blocks of a memory lie: each block with its place in the region, and which words it covers there.
use Rattle.std.specs.Prelude.{◌≡◌, ℕ, ℤ, ◌+◌, ◌<◌, ◌≤◌, List, [], map, Option, Some, None, slice_set}
use Rattle.std.specs.Prelude.{sum_by}
use Rattle.block_memory.specs.Content.{Block, Content}
use Rattle.block_memory.specs.Table.{value_at}

-- a block that lies at a place: it covers `len` words of the region from there on, which are its words or none
pub record PlacedBlock : Type 0 where
  pub owner : ℕ
  pub place : ℕ
  pub len : ℕ
  pub words : List ℤ

-- a region of `size` words, with a block or nothing at each number
pub record Layout : Type 0 where
  pub size : ℕ
  pub slots : List (Option PlacedBlock)

-- what the region contains, wherever its blocks lie
abbrev pub block_of : Option PlacedBlock → Option Block
block_of None = None
block_of (Some p) = Some (record { owner = p.owner; words = p.words })

abbrev pub content_of : List (Option PlacedBlock) → Content
content_of slots = map block_of slots

-- whose the block of a number is, its place, how many words it covers, and its words: 0 and no words if the number has
-- no block
abbrev pub owner_of : Option PlacedBlock → ℕ
owner_of None = 0
owner_of (Some p) = p.owner

abbrev pub place_of : Option PlacedBlock → ℕ
place_of None = 0
place_of (Some p) = p.place

abbrev pub covered_of : Option PlacedBlock → ℕ
covered_of None = 0
covered_of (Some p) = p.len

abbrev pub words_of : Option PlacedBlock → List ℤ
words_of None = []
words_of (Some p) = p.words

abbrev pub owner_at : List (Option PlacedBlock) → ℕ → ℕ
owner_at slots number = owner_of (value_at slots number)

abbrev pub place_at : List (Option PlacedBlock) → ℕ → ℕ
place_at slots number = place_of (value_at slots number)

abbrev pub covered_at : List (Option PlacedBlock) → ℕ → ℕ
covered_at slots number = covered_of (value_at slots number)

abbrev pub words_at : List (Option PlacedBlock) → ℕ → List ℤ
words_at slots number = words_of (value_at slots number)

-- how many words the blocks cover together
abbrev pub covered_words : List (Option PlacedBlock) → ℕ
covered_words slots = sum_by covered_of slots

-- the block of the number covers the word
pub record Covers (slots : List (Option PlacedBlock)) (number word : ℕ) : Type 0 where
  pub block : PlacedBlock
  pub there : value_at slots number ≡ Some block
  pub from : block.place ≤ word
  pub below : word < block.place + block.len

-- no block other than that of the number covers a word of place..place + len
abbrev pub IsClear : List (Option PlacedBlock) → ℕ → ℕ → ℕ → Type 0
IsClear slots number place len =
    (other word : ℕ) → place ≤ word → word < place + len → Covers slots other word → other ≡ number

-- no block covers a word of place..place + len
abbrev pub IsBare : List (Option PlacedBlock) → ℕ → ℕ → Type 0
IsBare slots place len = (other word : ℕ) → place ≤ word → word < place + len → Covers slots other word → ⊥

-- the number has a block that covers words, and the first of them is at the place
pub record Begins (slots : List (Option PlacedBlock)) (number place : ℕ) : Type 0 where
  pub block : PlacedBlock
  pub there : value_at slots number ≡ Some block
  pub here : block.place ≡ place
  pub some : 0 < block.len

-- the layout with what the number has put in the place of what it had
abbrev pub with_slot : Layout → ℕ → Option PlacedBlock → Layout
with_slot layout number p = record { size = layout.size; slots = slice_set layout.slots number p }

-- a block at another place
abbrev pub block_at_place : ℕ → Option PlacedBlock → Option PlacedBlock
block_at_place to None = None
block_at_place to (Some p) = Some (record { owner = p.owner; place = to; len = p.len; words = p.words })

-- the layout after the block of the number was moved
abbrev pub layout_after_move : Layout → ℕ → ℕ → Layout
layout_after_move layout number to = with_slot layout number (block_at_place to (value_at layout.slots number))

-- a block with other words
abbrev pub block_with_words : List ℤ → Option PlacedBlock → Option PlacedBlock
block_with_words words None = None
block_with_words words (Some p) = Some (record { owner = p.owner; place = p.place; len = p.len; words = words })

-- the layout after other words were written over those of the block of the number
abbrev pub layout_after_rewrite : Layout → ℕ → List ℤ → Layout
layout_after_rewrite layout number words =
    with_slot layout number (block_with_words words (value_at layout.slots number))
