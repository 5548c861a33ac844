-- Bytes that every reader takes alike: visible ones, and decimal digits with their value.
use Rattle.std.specs.Prelude.{◌≡◌, ℕ, suc, ◌+◌, ◌-◌, ◌*◌, ◌<◌, nat_le, nat_lt, Bool, ◌&&◌, if◌then◌else◌, List, [], ◌∷◌}
use Rattle.std.specs.Prelude.{take, Option}
use Rattle.std.specs.Prelude.{Some, None}

-- a printable byte of ASCII other than the blank
abbrev pub is_visible : ℕ → Bool
is_visible b = nat_le 33 b && nat_le b 126

abbrev pub is_digit : ℕ → Bool
is_digit b = nat_le 48 b && nat_le b 57

-- the value of digits, after digits of value n
abbrev pub digits_from : ℕ → List ℕ → Option ℕ
digits_from n [] = Some n
digits_from n (c ∷ cs) = if is_digit c then digits_from (10 * n + (c - 48)) cs else None

-- the value of one digit or more
abbrev pub decimal : List ℕ → Option ℕ
decimal [] = None
decimal (c ∷ cs) = digits_from 0 (c ∷ cs)

-- the value, if it is below m
abbrev pub below : ℕ → Option ℕ → Option ℕ
below m None = None
below m (Some n) = if nat_lt n m then Some n else None

-- how many digits are at the front of a text
abbrev pub digit_count : List ℕ → ℕ
digit_count [] = 0
digit_count (c ∷ cs) = if is_digit c then suc (digit_count cs) else 0

-- this many digits, of this value below m, are at the front of a text, and no digit follows them
pub record IsNumberAtFront (m : ℕ) (t : List ℕ) (value count : ℕ) : Type 0 where
  pub small : value < m
  pub count_is : count ≡ digit_count t
  pub value_is : decimal (take count t) ≡ Some value

-- no digit is at the front of a text, or the value of the digits there isn't below m
abbrev pub HasNoNumberAtFront : ℕ → List ℕ → Type 0
HasNoNumberAtFront m t = below m (decimal (take (digit_count t) t)) ≡ None
