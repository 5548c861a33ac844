-- When columns are those of the instructions so far.
use Rattle.std.specs.Prelude.{◌≡◌, ℕ, ◌+◌, ◌*◌, ◌<◌, ◌≤◌, ◌^◌, List, length, slice_index_or}
use Rattle.job_profile.specs.declared.strip.Column.{Column}
use Rattle.job_profile.specs.declared.strip.TheConstants.{MOST_COLUMNS}
use Rattle.job_profile.specs.Columns.{AreFine, joined, no_column, column_of}

-- the first half has each two as one
pub record AreJoined (old new : List Column) : Type 0 where
  pub same_length : length new ≡ length old
  pub each : (i : ℕ) → i + i + 1 < length old →
      slice_index_or new i no_column
      ≡ joined (slice_index_or old (i + i) no_column) (slice_index_or old (i + i + 1) no_column)

-- this many columns of n instructions, of `each` of them, the last of which has room for some more
pub record HasShape (n count each room : ℕ) : Type 0 where
  pub covered : n + room ≡ count * each
  pub left : room < each
  pub few : count ≤ MOST_COLUMNS

-- this many columns, which are fine once an instruction more is in them
pub record IsStrip (of : ℕ → Column) (n : ℕ) (columns : List Column) (each room : ℕ) : Type 0 where
  pub shape : HasShape n (length columns) each room
  pub power : (k : ℕ) × (each ≡ 2 ^ k)
  pub fine : AreFine (n + 1) each
  pub means : (i : ℕ) → i < length columns → slice_index_or columns i no_column ≡ column_of of each n i
