-- Numbered places, each with a value or empty: what a contract sees of a table.
use Rattle.std.specs.Prelude.{ℕ, List, Option, None, is_some, count_by, slice_index_or}

module _ {T : Type 0} where
  -- the value at a number, if it has one
  abbrev pub value_at : List (Option T) → ℕ → Option T
  value_at slots number = slice_index_or slots number None

  -- how many numbers have a value
  abbrev pub value_count : List (Option T) → ℕ
  value_count slots = count_by is_some slots
