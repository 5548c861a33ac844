-- Numbers that are no length of a segment.
use Rattle.std.proofs.Common.{◌≡◌, ◌≤◌, ℤ, false, List, nat_lt, unsigned_abs, w64, arith}
use Rattle.std.specs.Int.{cast_unsigned}
use Rattle.std.specs.List.{list_any}
use Rattle.std.proofs.lemmas.Bool.Decides.{nat_tests}
use Rattle.std.proofs.lemmas.Grind.{common_steps}
use Rattle.std.proofs.lemmas.Int.{ints}
use Rattle.std.proofs.lemmas.List.Folds.{list_any_none}
use Rattle.std.proofs.lemmas.List.Sums.{get_or-le-sum_by}
use Rattle.vcode_base.specs.Kinds.{AreLengths}
use Rattle.vcode_base.specs.Segments.{total}
use Rattle.vcode_base.specs.declared.limits.TheConstants.{MOST_TOTAL}

-- a number without its sign is above the greatest total if it is negative
pub none_large : (s : List ℤ) → AreLengths s → total s ≤ MOST_TOTAL
    → list_any (λ n. nat_lt MOST_TOTAL (cast_unsigned w64 n)) s ≡ false
none_large s lengths small = list_any_none _ s
    (λ k d h. grind (arith, ints, nat_tests, lengths k d h, get_or-le-sum_by unsigned_abs s k d h))

pub ruleset sizes_checked = (common_steps, none_large)
