-- Which words of a region are free, and the holes that they make: the greatest ranges of free words.
use Rattle.std.specs.Prelude.{◌≡◌, ℕ, ◌+◌, ◌-◌, ◌<◌, ◌≤◌, max, Bool, true, false, List, [], ◌∷◌, ◌++◌, take}
use Rattle.std.specs.Prelude.{drop, replicate, count_by, slice_index_or}

-- a region: at each place whether the word there is free, and how many holes there is room for
pub record Region : Type 0 where
  pub free : List Bool
  pub most : ℕ

-- whether the word at a place is free; past the end none is
abbrev pub is_free : List Bool → ℕ → Bool
is_free free word = slice_index_or free word false

-- each word of place..place + len is free
abbrev pub AllFree : List Bool → ℕ → ℕ → Type 0
AllFree free place len = (word : ℕ) → place ≤ word → word < place + len → is_free free word ≡ true

-- no word of place..place + len is free
abbrev pub NoneFree : List Bool → ℕ → ℕ → Type 0
NoneFree free place len = (word : ℕ) → place ≤ word → word < place + len → is_free free word ≡ false

-- the words with those of place..place + len free, or not free, and the others as they were
abbrev pub set_range : List Bool → ℕ → ℕ → Bool → List Bool
set_range free place len value = take place free ++ replicate len value ++ drop (place + len) free

-- the region after its words of place..place + len were taken
abbrev pub taken_from : Region → ℕ → ℕ → Region
taken_from region place len = record { free = set_range region.free place len false; most = region.most }

-- the region after its words of place..place + len were given back
abbrev pub given_to : Region → ℕ → ℕ → Region
given_to region place len = record { free = set_range region.free place len true; most = region.most }

-- the words of a region of `size` words, of which exactly those from a place on are free
abbrev pub free_from : ℕ → ℕ → List Bool
free_from place size = replicate place false ++ replicate (size - place) true

-- a hole: a range of free words, with no free word right before or right after it
pub record IsHole (free : List Bool) (place len : ℕ) : Type 0 where
  pub some : 0 < len
  pub inside : AllFree free place len
  pub before : (word : ℕ) → word + 1 ≡ place → is_free free word ≡ false
  pub behind : is_free free (place + len) ≡ false

-- the place is the front of the lowest hole that has len words or more
pub record IsLowestFit (free : List Bool) (len place : ℕ) : Type 0 where
  pub hole_len : ℕ
  pub hole : IsHole free place hole_len
  pub fits : len ≤ hole_len
  pub lowest : (other other_len : ℕ) → IsHole free other other_len → len ≤ other_len → place ≤ other

-- how many words are free
abbrev pub free_count : List Bool → ℕ
free_count free = count_by (λ word. word) free

-- how many holes begin in the words, after a word that is free or not
abbrev pub hole_count_after : Bool → List Bool → ℕ
hole_count_after before [] = 0
hole_count_after before (false ∷ free) = hole_count_after false free
hole_count_after true (true ∷ free) = hole_count_after true free
hole_count_after false (true ∷ free) = 1 + hole_count_after true free

-- how many holes there are
abbrev pub hole_count : List Bool → ℕ
hole_count free = hole_count_after false free

-- the lowest free word, or the number of words if none is free
abbrev pub lowest_free : List Bool → ℕ
lowest_free [] = 0
lowest_free (false ∷ free) = 1 + lowest_free free
lowest_free (true ∷ free) = 0

-- how many words are free in a row from the front on
abbrev pub front_run : List Bool → ℕ
front_run [] = 0
front_run (false ∷ free) = 0
front_run (true ∷ free) = 1 + front_run free

-- the length of the widest hole, or 0 if no word is free
abbrev pub widest : List Bool → ℕ
widest [] = 0
widest (word ∷ free) = max (front_run (word ∷ free)) (widest free)

-- a range of words
pub record Range : Type 0 where
  pub place : ℕ
  pub len : ℕ

-- the words of a region of `size` words, all free but those of the ranges
abbrev pub free_beside : ℕ → List Range → List Bool
free_beside size [] = replicate size true
free_beside size (range ∷ ranges) = set_range (free_beside size ranges) range.place range.len false
