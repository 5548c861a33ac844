-- The words that a job holds over time, by columns of as many instructions that follow one another.
use Rattle.std.specs.Prelude.{◌≡◌, ◌⊎◌, ℕ, zero, suc, ◌+◌, ◌-◌, ◌*◌, ◌/◌, ◌<◌, ◌≤◌, ◌^◌, nat_lt, max, min}
use Rattle.std.specs.Prelude.{if◌then◌else◌}
use Rattle.std.specs.Prelude.{List, [], ◌∷◌, length, slice_index_or}
use Rattle.job_steps.specs.Runs.{state_after}
use Rattle.job_steps.specs.Standings.{held_in}
use Rattle.job_steps.specs.States.{Task}
use Rattle.job_slots.specs.Answers.{demand_in}
use Rattle.job_profile.specs.declared.strip.Column.{Column}
use Rattle.job_profile.specs.declared.strip.TheConstants.{MOST_COLUMNS}
use Rattle.job_profile.specs.Counts.{line_in}

abbrev pub no_column : Column
no_column = record { most = 0; least = 0; line = 0 }

-- two columns that follow one another as one
abbrev pub joined : Column → Column → Column
joined a b = record {
  most = max a.most b.most;
  least = min a.least b.least;
  line = if nat_lt a.most b.most then b.line else a.line;
}

-- of the instruction that n others come before: the words that it holds and needs, those that are held after it, and
-- its line
abbrev pub column_at : Task → ℕ → Column
column_at task n = record {
  most = demand_in task.rule (state_after task n);
  least = held_in (state_after task (suc n));
  line = line_in (state_after task n);
}

-- of such an instruction and of this many after it
abbrev pub column_over : (ℕ → Column) → ℕ → ℕ → Column
column_over of from zero = of from
column_over of from (suc more) = joined (column_over of from more) (of (from + suc more))

-- of the instructions of column i of n instructions, if each column is of this many, and the last of what is left
abbrev pub column_of : (ℕ → Column) → ℕ → ℕ → ℕ → Column
column_of of each n i = column_over of (i * each) (min each (n - i * each) - 1)

-- the greatest of all
abbrev pub highest : List Column → ℕ
highest [] = 0
highest (column ∷ columns) = max column.most (highest columns)

-- each two as one
abbrev pub halved : List Column → List Column
halved [] = []
halved (a ∷ []) = a ∷ []
halved (a ∷ b ∷ columns) = joined a b ∷ halved columns

-- n instructions are in columns of one, or in more than half as many columns as there may be
abbrev pub AreFine : ℕ → ℕ → Type 0
AreFine n each = (each ≡ 1) ⊎ (MOST_COLUMNS / 2 * each < n)

-- The columns of the first n instructions of a job: each is of `each` instructions, and the last of what is left.
pub record AreColumns (task : Task) (n each : ℕ) (columns : List Column) : Type 0 where
  pub power : (k : ℕ) × (each ≡ 2 ^ k)
  pub fine : AreFine n each
  pub few : length columns ≤ MOST_COLUMNS
  pub enough : n ≤ length columns * each
  pub none_beyond : length columns * each < n + each
  pub means : (i : ℕ) → i < length columns →
      slice_index_or columns i no_column ≡ column_of (column_at task) each n i
