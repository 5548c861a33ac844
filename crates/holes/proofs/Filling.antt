-- Bitmaps that are written alike.
use Rattle.std.proofs.Common.{◌≡◌, ℕ, ◌-◌, ◌*◌, ◌<◌, ◌≤◌, ◌^◌, Bool, true, false, eqb, List, length, take, drop, ap}
use Rattle.std.proofs.Common.{arith}
use Rattle.std.specs.Prelude.{replicate}
use Rattle.std.proofs.lemmas.Nat.Bits.{bit_at_ones, bit_at-zero}
use Rattle.std.proofs.lemmas.Grind.{elements}
use borrow.Rule.Slice.PartMut.{put_mid}
use Rattle.holes.specs.Tree.{is_set, IsFilled, IsWritten}

pub all_put : (old part : List ℕ) (first end whole : ℕ) → first ≤ end → end ≤ length old →
    part ≡ replicate (length (take (end - first) (drop first old))) whole →
    IsWritten old (put_mid first (end - first) old part) first end whole
all_put old part first end whole order within filled = grind (arith, elements)

pub all_filled : (old new : List ℕ) (first end whole : ℕ) (value : Bool) → first ≤ end → end ≤ length old →
    ((word : ℕ) → word < 64 → is_set whole word ≡ value) → IsWritten old new first end whole →
    IsFilled old new (64 * first) (64 * (end - first)) value
all_filled old new first end whole value order within all written = grind arith

pub all_set : (word : ℕ) → word < 64 → is_set (2 ^ 64 - 1) word ≡ true
all_set word lt = grind (arith, bit_at_ones 64 word lt)

pub none_set : (word : ℕ) → word < 64 → is_set 0 word ≡ false
none_set word lt = ap (λ b. eqb b 1) (bit_at-zero word)

-- bitmaps of which all words are free, or none is
pub ruleset fills = (all_put, all_filled, all_set, none_set)
