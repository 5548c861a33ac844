-- Loops that fold the elements of a segment.
use Rattle.std.proofs.Common.{◌≡◌, ℕ, ◌<◌, ℤ, pos, List, length, take, get_or, fold, get_or-set_other}
use Rattle.std.proofs.lemmas.Grind.{common_steps, get_or-set_at}
use Rattle.std.proofs.lemmas.Int.{to_z-of_z}
use Rattle.std.proofs.lemmas.List.{map_more}
use Rattle.std.proofs.lemmas.List.FromFn.{fill_by_all}
use Rattle.std.proofs.lemmas.List.Sums.{fold_more}
use Rattle.segment_ops.specs.Folds.{exclusive_scan}

-- a list with at each place the fold of the elements before it
pub scanned : (combine : ℤ → ℤ → ℤ) (start : ℤ) (xs out : List ℤ) → length out ≡ length xs
    → ((k : ℕ) → k < length xs → get_or out k (pos 0) ≡ fold combine start (take k xs))
    → out ≡ exclusive_scan combine start xs
scanned combine start xs out long each = fill_by_all _ out (length xs) (pos 0) long each

pub ruleset folds = (common_steps, to_z-of_z, fold_more, map_more)

pub ruleset scans = (get_or-set_at, get_or-set_other, to_z-of_z, fold_more, scanned)
