-- Kinds as the digits of base 4 of a number, the lowest digit first.
use Rattle.std.specs.Prelude.{ℕ, zero, suc, ◌+◌, ◌/◌, ◌%◌, ◌*◌, ◌^◌, ◌<◌, ◌≤◌, List, [], ◌∷◌, map}
use Rattle.std.specs.List.{All}
use Rattle.vcode_base.specs.declared.kind.Kind.{Kind}
use Rattle.vcode_base.specs.declared.kind.Kind.TheVariants.{Int, Bool, Segdes}

abbrev pub digit_of : Kind → ℕ
digit_of Int = 0
digit_of Bool = 1
digit_of Segdes = 2

-- the kind of a digit below 3
abbrev pub kind_of_digit : ℕ → Kind
kind_of_digit zero = Int
kind_of_digit (suc zero) = Bool
kind_of_digit (suc (suc n)) = Segdes

-- the lowest digits of a number
unfoldable pub digits_of : ℕ → ℕ → List ℕ
digits_of zero n = []
digits_of (suc count) n = n % 4 ∷ digits_of count (n / 4)

-- the kinds of its lowest digits
abbrev pub kinds_of : ℕ → ℕ → List Kind
kinds_of count n = map kind_of_digit (digits_of count n)

-- each of these digits is that of a kind
abbrev pub AreKinds : ℕ → ℕ → Type 0
AreKinds count n = All (λ digit. digit < 3) (digits_of count n)

-- the digits of the kinds, as a number
unfoldable pub packed : List Kind → ℕ
packed [] = 0
packed (k ∷ ks) = packed ks * 4 + digit_of k

-- this number has no digits but those of this many kinds
pub record IsPacked (count n : ℕ) : Type 0 where
  pub fits : n < 2 ^ (2 * count)
  pub kinds : AreKinds count n

-- and they are at most those of a word
pub record IsChunk (count n : ℕ) : Type 0 where
  pub few : count ≤ 32
  pub packed : IsPacked count n
