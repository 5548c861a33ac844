-- The free words of a region: those of the holes, and those of ranges that are kept beside them.
use Rattle.std.specs.Prelude.{◌≡◌, ℕ, ◌+◌, ◌<◌, ◌≤◌, Bool, true, false, List, [], ◌∷◌, length, map, Option, Some, None}
use Rattle.holes.specs.FreeWords.{Region, is_free, set_range, AllFree, taken_from}
use Rattle.block_memory.specs.Table.{value_at}
use Rattle.block_memory.specs.Layout.{PlacedBlock, Covers}
use Rattle.block_memory.specs.Region.{AreApart}
use Rattle.block_memory.specs.declared.places.WordRange.{WordRange}

-- a range that is kept covers its words as a block does
abbrev pub slot_of : Option WordRange → Option PlacedBlock
slot_of None = None
slot_of (Some r) = Some (record { owner = 0; place = r.place; len = r.len; words = [] })

abbrev pub slots_of : List (Option WordRange) → List (Option PlacedBlock)
slots_of kept = map slot_of kept

-- the free words, and those of the ranges that are kept
abbrev pub free_with : List Bool → List (Option PlacedBlock) → List Bool
free_with free [] = free
free_with free (None ∷ kept) = free_with free kept
free_with free (Some p ∷ kept) = set_range (free_with free kept) p.place p.len true

-- the ranges that are kept lie in the region, apart from each other and from the holes, for which there is room
pub record ArePlaces (holes : Region) (kept : List (Option PlacedBlock)) : Type 0 where
  pub apart : AreApart kept
  pub taken : (n word : ℕ) → Covers kept n word → is_free holes.free word ≡ false
  pub within : (n : ℕ) (p : PlacedBlock) → value_at kept n ≡ Some p
      → (1 ≤ p.len) × (p.place + p.len ≤ length holes.free)
  pub room : length holes.free < holes.most

-- the region of the holes, with the words of the ranges that are kept
abbrev pub with_kept : Region → List (Option WordRange) → Region
with_kept holes kept = record { free = free_with holes.free (slots_of kept); most = holes.most }

-- no range is kept
abbrev pub AreAllEmpty : List (Option WordRange) → Type 0
AreAllEmpty kept = (n : ℕ) → value_at kept n ≡ None

-- free words of the region were taken
pub record IsTaken (old new : Region) (place len : ℕ) : Type 0 where
  pub free : AllFree old.free place len
  pub within : place + len ≤ length old.free
  pub taken : new ≡ taken_from old place len
