-- Indices of one segment.
use Rattle.std.specs.Prelude.{ℕ, ℤ, pos, ◌≡◌, ◌≤◌, ◌<◌, ◌≤ℤ◌, ◌<ℤ◌, Bool, false, List, length, slice_index_or}
use Rattle.std.specs.Prelude.{unsigned_abs}
use Rattle.std.specs.List.{list_any}
use Rattle.vcode_base.specs.Elements.{is_outside}
use Rattle.vcode_base.specs.Segments.{names}

-- each of them is one of 0 .. n - 1
abbrev pub AreWithin : ℕ → List ℤ → Type 0
AreWithin n is = (k : ℕ) → k < length is → (pos 0 ≤ℤ slice_index_or is k (pos 0)) × (slice_index_or is k
    (pos 0) <ℤ pos n)

-- some index is none of 0 .. n - 1
abbrev pub some_outside : ℕ → List ℤ → Bool
some_outside n is = list_any (is_outside n) is

-- the place that the index j of a list names
abbrev pub place_of : List ℤ → ℕ → ℕ
place_of is j = unsigned_abs (slice_index_or is j (pos 0))

-- each of the first k indices names a place that holds the number of an index which names it: its own, or a later one
abbrev pub HoldsClaims : ℕ → List ℤ → List ℤ → Type 0
HoldsClaims k is out = (j : ℕ) → j < k → (m : ℕ) × (j ≤ m) × (m < k) × (place_of is m ≡ place_of is j)
    × (slice_index_or out (place_of is j) (pos 0) ≡ pos m)

-- the places that no index names hold in ys what they hold in xs
abbrev pub IsSameBeside : List ℤ → List ℤ → List ℤ → Type 0
IsSameBeside is xs ys = (q : ℕ) → q < length xs → list_any (names q) is ≡ false
    → slice_index_or ys q (pos 0) ≡ slice_index_or xs q (pos 0)
