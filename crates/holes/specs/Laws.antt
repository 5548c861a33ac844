-- The laws of free words, as the public module `laws` promises them.
use Rattle.std.specs.Prelude.{◌≡◌, ℕ, ◌+◌, ◌<◌, ◌≤◌, Bool, true, false, List, length, slice_index_or}
use Rattle.holes.specs.FreeWords.{AllFree, NoneFree, set_range, IsHole, free_count, hole_count, widest, Range}
use Rattle.holes.specs.FreeWords.{free_beside}

-- if there is at most one hole, it has all free words
abbrev pub OneHoleHasAll : Type 0
OneHoleHasAll = (free : List Bool) → hole_count free ≤ 1 → widest free ≡ free_count free

-- free words that are taken are free no more, and all others stay
abbrev pub TakingLowersCount : Type 0
TakingLowersCount =
    (free : List Bool) (place len : ℕ) → place + len ≤ length free → AllFree free place len →
    free_count free ≡ free_count (set_range free place len false) + len

-- words that are given back are free again, and all others stay
abbrev pub GivingRaisesCount : Type 0
GivingRaisesCount =
    (free : List Bool) (place len : ℕ) → place + len ≤ length free → NoneFree free place len →
    free_count (set_range free place len true) ≡ free_count free + len

-- beside some ranges there is at most one hole more than there are ranges
abbrev pub OneHoleMoreThanRanges : Type 0
OneHoleMoreThanRanges =
    (size : ℕ) (ranges : List Range) → hole_count (free_beside size ranges) ≤ length ranges + 1

-- the range at an index, past the end an empty one
abbrev pub range_at : List Range → ℕ → Range
range_at ranges index = slice_index_or ranges index (record { place = 0; len = 0 })

-- the ranges are the holes of some words, all of them, each once and in order of place
pub record AreHoles (free : List Bool) (ranges : List Range) : Type 0 where
  pub each : (k : ℕ) → k < length ranges → IsHole free (range_at ranges k).place (range_at ranges k).len
  pub every : (place len : ℕ) → IsHole free place len →
      (k : ℕ) × (k < length ranges) × ((range_at ranges k).place ≡ place) × ((range_at ranges k).len ≡ len)
  pub ordered : (i k : ℕ) → i < k → k < length ranges →
      (range_at ranges i).place + (range_at ranges i).len < (range_at ranges k).place

-- `hole_count` is the number of the holes
abbrev pub HolesAreCounted : Type 0
HolesAreCounted = (free : List Bool) → (ranges : List Range) × AreHoles free ranges × (length ranges ≡ hole_count free)

-- `widest` is the greatest length of a hole, if a word is free
pub record IsWidest (free : List Bool) (most : ℕ) : Type 0 where
  pub above : (place len : ℕ) → IsHole free place len → len ≤ most
  pub reached : 0 < most → (place : ℕ) × IsHole free place most

abbrev pub WidestIsGreatest : Type 0
WidestIsGreatest = (free : List Bool) → IsWidest free (widest free)

-- there are no more holes than free words
abbrev pub NoMoreHolesThanWords : Type 0
NoMoreHolesThanWords = (free : List Bool) → hole_count free ≤ free_count free
