-- What writing a block into a region changes: words from a place on, and a number at the first of them.
use Rattle.std.specs.Prelude.{◌≡◌, ◌≢◌, ℕ, ℤ, ◌+◌, ◌<◌, ◌≤◌, max, List, length, take, drop, slice_index}
use Rattle.std.specs.List.{SameBelow, SameFrom}

-- these words are at the place and after it, and the others are as before
pub record IsWritten (old new : List ℤ) (place : ℕ) (words : List ℤ) : Type 0 where
  pub same_size : length new ≡ length old
  pub written : take (length words) (drop place new) ≡ words
  pub below : SameBelow old new place
  pub behind : SameFrom old new (place + length words)

-- the number is at the place of the first of `len` words, if there are any, and the others are as before
pub record IsMarked (old new : List ℕ) (place len number : ℕ) : Type 0 where
  pub longer : length old ≤ length new
  pub reached : 0 < len → place < length new
  pub marked : 0 < len → slice_index new place ≡ number
  pub others : (i : ℕ) → i ≢ place → i < length old → slice_index new i ≡ slice_index old i
  pub kept : len ≡ 0 → new ≡ old

-- the list is at least so long, with the items that it had
pub record IsLengthened {X : Type 0} (old new : List X) (len : ℕ) : Type 0 where
  pub long : length new ≡ max (length old) len
  pub kept : SameBelow old new (length old)
