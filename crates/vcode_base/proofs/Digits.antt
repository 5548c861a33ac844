-- The value of decimal digits.
use Rattle.std.proofs.Common.{◌≡◌, ◌⊎◌, ℕ, zero, suc, ◌+◌, ◌-◌, ◌*◌, ◌<◌, ◌≤◌, List, [], ◌∷◌, length, take}
use Rattle.std.proofs.Common.{None, refl, arith}
use Rattle.std.proofs.lemmas.Bool.Decides.{nat_tests}
use Rattle.std.proofs.lemmas.Grind.{common_steps}
use Rattle.std.proofs.lemmas.List.{take_all}
use Rattle.vcode_base.specs.Bytes.{digits_from, decimal, below, digit_count}
use Rattle.vcode_base.specs.DigitLaws.{FewDigitsFit}

-- ---- the digits at the front of a text

-- more digits make no number smaller
pub past : (m n : ℕ) (t : List ℕ) → m ≤ n → below m (digits_from n t) ≡ None
past m n [] h = grind (arith, nat_tests)
past m n (c ∷ cs) h = grind (arith, nat_tests, past m (10 * n + (c - 48)) cs)

-- one digit or more have the value of digits after none
pub decimal_front : (t : List ℕ) → 1 ≤ digit_count t
    → decimal (take (digit_count t) t) ≡ digits_from 0 (take (digit_count t) t)
decimal_front t some = grind arith

-- ---- a text that is a number

other_follows : (n : ℕ) (t : List ℕ) → digit_count t < length t → digits_from n t ≡ None
other_follows n [] lt = absurd (omega arith)
other_follows n (c ∷ cs) lt = grind (arith, other_follows (10 * n + (c - 48)) cs)

-- a text is digits alone, or it has no value
pub whole_or_none : (t : List ℕ) → ((digit_count t < length t) × (decimal t ≡ None))
    ⊎ ((length t ≤ digit_count t) × (take (digit_count t) t ≡ t))
whole_or_none t = grind (arith, other_follows 0 t, take_all (digit_count t) t)

-- ---- few digits always fit

-- the greatest number that n and this many digits after it can be
abbrev greatest : ℕ → ℕ → ℕ
greatest n zero = n
greatest n (suc k) = greatest (10 * n + 9) k

grows : (k n : ℕ) → n ≤ greatest n k
grows zero n = omega arith
grows (suc k) n = omega (arith, grows k (10 * n + 9))

fit : (k m n b : ℕ) (t : List ℕ) → length t ≤ k → n ≤ b → greatest b k < m
    → below m (digits_from n t) ≡ digits_from n t
fit k m n b [] short h room = grind (arith, nat_tests, grows k b)
fit zero m n b (c ∷ cs) short h room = absurd (omega arith)
fit (suc k) m n b (c ∷ cs) short h room =
    grind (arith, nat_tests, fit k m (10 * n + (c - 48)) (10 * b + 9) cs)

pub few_digits_fit : FewDigitsFit
few_digits_fit [] few = refl
few_digits_fit (c ∷ cs) few = fit 19 18446744073709551616 0 0 (c ∷ cs) (omega arith) (omega arith) (omega arith)

pub ruleset digit_steps = (common_steps, nat_tests, past, decimal_front)

pub ruleset decimal_steps = (common_steps, nat_tests, whole_or_none)
