-- Blocks and holes cover a region, each word once.
use Rattle.std.specs.Prelude.{◌≡◌, ℕ, ◌+◌, ◌<◌, ◌≤◌, Bool, false, List, length, Option, Some}
use Rattle.holes.specs.FreeWords.{Region, is_free, AllFree, taken_from}
use Rattle.block_memory.specs.Content.{Content, used_words}
use Rattle.block_memory.specs.Table.{value_at}
use Rattle.block_memory.specs.Layout.{PlacedBlock, Layout, Covers, content_of, covered_words}

-- what contracts see of a region: how many words it has, what it contains, which words are free, and how many the last
-- block that was placed moved
pub record RegionState : Type 0 where
  pub room : ℕ
  pub content : Content
  pub free : List Bool
  pub moved : ℕ

-- no word is covered by two blocks
abbrev pub AreApart : List (Option PlacedBlock) → Type 0
AreApart slots = (m n word : ℕ) → Covers slots m word → Covers slots n word → m ≡ n

-- each block covers words of the region, and no more than it has
abbrev pub AreWithin : List (Option PlacedBlock) → ℕ → Type 0
AreWithin slots size =
    (n : ℕ) (p : PlacedBlock) → value_at slots n ≡ Some p → (p.place + p.len ≤ size) × (p.len ≤ length p.words)

-- some block covers the word
pub record IsCovered (slots : List (Option PlacedBlock)) (word : ℕ) : Type 0 where
  pub number : ℕ
  pub covers : Covers slots number word

-- each word is free, or one block covers it
pub record CoverRegion (slots : List (Option PlacedBlock)) (free : List Bool) : Type 0 where
  pub apart : AreApart slots
  pub covered : (n word : ℕ) → Covers slots n word → is_free free word ≡ false
  pub others : (word : ℕ) → word < length free → is_free free word ≡ false → IsCovered slots word

-- the blocks and the holes of a region of which the blocks cover this many words
pub record IsRegion (layout : Layout) (holes : Region) (covered_count : ℕ) : Type 0 where
  pub cover : CoverRegion layout.slots holes.free
  pub within : AreWithin layout.slots layout.size
  pub same_size : length holes.free ≡ layout.size
  pub room : length holes.free < holes.most
  pub counted : covered_count ≡ covered_words layout.slots
  pub fits : covered_count ≤ layout.size

-- a region in which `used` words are in use, of which the blocks cover this many in the region
pub record IsPackedRegion (layout : Layout) (holes : Region) (covered_count used : ℕ) : Type 0 where
  pub region : IsRegion layout holes covered_count
  pub counted : used ≡ used_words (content_of layout.slots)
  pub fits : used ≤ layout.size

-- the blocks cover the first `used` words and no other
pub record ArePacked (slots : List (Option PlacedBlock)) (used : ℕ) : Type 0 where
  pub apart : AreApart slots
  pub front : (word : ℕ) → word < used → IsCovered slots word
  pub behind : (n word : ℕ) → Covers slots n word → word < used

-- words of a hole were taken for a block that is still to come
pub record HasRoom (layout : Layout) (holes : Region) (used place len : ℕ) : Type 0 where
  pub before : Region
  pub region : IsRegion layout before used
  pub all_free : AllFree before.free place len
  pub taken : holes ≡ taken_from before place len
  pub inside : place + len ≤ layout.size
