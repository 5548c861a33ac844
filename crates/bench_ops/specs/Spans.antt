-- Ranges of words that were taken of a region.
use Rattle.std.specs.Prelude.{ℕ, ◌+◌, ◌≤◌, nat_le, nat_lt, if◌then◌else◌, Bool, List, sum_by}
use Rattle.holes.specs.FreeWords.{is_free}
use Rattle.bench_ops.specs.declared.spans.Span.{Span}

-- 1 for a word of the range, 0 for any other
abbrev pub covers : ℕ → Span → ℕ
covers word span =
    if nat_le span.place word then (if nat_lt word (span.place + span.len) then 1 else 0) else 0

-- no word is in two of the ranges, and none that is free in any
abbrev pub AreApart : List Bool → List Span → Type 0
AreApart free spans = (word : ℕ) → sum_by (covers word) spans + (if is_free free word then 1 else 0) ≤ 1
