-- Lists of one number.
use Rattle.std.specs.Prelude.{ℕ, ℤ, pos, ◌≡◌, ◌<◌, List, length, slice_index_or}

-- each element is this number
abbrev pub AreAll : ℤ → List ℤ → Type 0
AreAll n xs = (k : ℕ) → k < length xs → slice_index_or xs k (pos 0) ≡ n
