use Rattle.std.proofs.Common.{◌≡◌, ℕ, ◌+◌, ◌<◌, ◌≤◌, length, get_or}
use Rattle.job_profile.specs.Columns.{joined, no_column}
use Rattle.job_profile.proofs.strip.join_pairs.Given as goal

abbrev pub invariant-loop-place : goal.invariant-loop-place
invariant-loop-place g l = record {
  same_length : length l.columns.items ≡ length l.fn.columns.items;
  done : (i : ℕ) → i < l.place →
      get_or l.columns.items i no_column
      ≡ joined (get_or l.fn.columns.items (i + i) no_column) (get_or l.fn.columns.items (i + i + 1) no_column);
  left : (i : ℕ) → l.place ≤ i → get_or l.columns.items i no_column ≡ get_or l.fn.columns.items i no_column;
  capacity : l.columns.cap ≡ l.fn.columns.cap;
}
