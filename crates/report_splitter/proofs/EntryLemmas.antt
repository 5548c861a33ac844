-- The parts of an entry: what a text begins with, what is before its first blank, and numbers.
use Rattle.std.proofs.Common.{◌≡◌, ◌≢◌, ◌<◌, ◌+◌, ◌-◌, ◌^◌, ℕ, List, ◌∷◌, ◌++◌, length}
use Rattle.std.proofs.Common.{take, drop, refl, arith, Option, Some, Result, Ok}
use Rattle.std.specs.Prelude.{All, decimal}
use Rattle.std.specs.Str.Parse.{ParsesUnsigned}
use Rattle.std.proofs.lemmas.Bool.Decides.{Decides-eqb}
use Rattle.std.proofs.lemmas.List.{get_or_at, get_or_append_left, length-append, take_all, take_at, drop_at}
use Rattle.std.proofs.lemmas.List.Elements.{All-from_get_or}
use Rattle.std.proofs.lemmas.Fmt.{decimal_is_IsNumeral, parse-decimal}
use Rattle.std.proofs.lemmas.Str.Parse.{digit_at}
use Rattle.memchr.specs.Find.{IsFirstByte, is_byte}

-- ---- the first of some byte

pub first_at : (b : ℕ) (front rest text : List ℕ) (r : Option ℕ) → All (λ x. x ≢ b) front → text ≡ front ++ (b ∷ rest)
    → IsFirstByte (is_byte b) text r → r ≡ Some (length front)
first_at b front rest text r other is f = grind (
  arith,
  length-append,
  get_or_at front b rest 0 (length front) refl,
  Decides-eqb,
  get_or_append_left front (b ∷ rest) 0,
)

-- ---- numbers

-- no digit is a byte below the digits
pub digits_apart : (number b : ℕ) → number < 2 ^ 64 → b < 48 → All (λ x. x ≢ b) (decimal number)
digits_apart number b small low = All-from_get_or (λ x. x ≢ b) (decimal number) 0
    (λ i l e. omega (arith, digit_at (decimal number) i (decimal_is_IsNumeral number small).0.1 l))

-- nor a blank
pub blank_apart : (number : ℕ) → number < 2 ^ 64 → All (λ x. x ≢ 32) (decimal number)
blank_apart number small = digits_apart number 32 small (omega arith)

-- ---- the parts around a byte

pub parts_at : (b : ℕ) (front rest text : List ℕ) (at : ℕ) → at ≡ length front → text ≡ front ++ (b ∷ rest)
    → (take at text ≡ front) × (take (length text - at) (drop at text) ≡ b ∷ rest)
parts_at b front rest text at here is = grind (arith, length-append, drop_at, take_at, take_all)

-- what is after the byte
pub after_byte : (b : ℕ) (text rest : List ℕ) → text ≡ b ∷ rest → take (length text - 1) (drop 1 text) ≡ rest
after_byte b text rest is = grind (arith, drop_at, take_all)

-- a number that is read
pub read_number : {E : Type 0} (number : ℕ) (bytes : List ℕ) (r : Result ℕ E) → number < 2 ^ 64 → bytes ≡ decimal number
    → ParsesUnsigned 64 10 bytes r → r ≡ Ok number
read_number number bytes r small is parses = parse-decimal 64 number bytes r small small is parses
