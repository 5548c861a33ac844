-- The number that a word is: decimal digits, with one minus before them or none, of a value within 64 bits; the value
-- of a kind that it is.
use Rattle.std.specs.Prelude.{ℕ, ℤ, pos, negsuc, neg_ℤ, ◌^◌, ◌==◌, nat_lt, nat_le, if◌then◌else◌}
use Rattle.std.specs.Prelude.{List, [], ◌∷◌, Option, Some, None, codes}
use Rattle.std.specs.Str.{bytes_eq}
use Rattle.vcode_base.specs.Bytes.{decimal}
use Rattle.vcode_base.specs.declared.kind.Scalar.{Scalar}
use Rattle.vcode_base.specs.declared.kind.Scalar.TheVariants.{Int, Bool}

abbrev pub positive : Option ℕ → Option ℤ
positive None = None
positive (Some n) = if nat_lt n (2 ^ 63) then Some (pos n) else None

abbrev pub negative : Option ℕ → Option ℤ
negative None = None
negative (Some n) = if nat_le n (2 ^ 63) then Some (neg_ℤ (pos n)) else None

unfoldable pub number_of : List ℕ → Option ℤ
number_of [] = None
number_of (c ∷ cs) = if c == 45 then negative (decimal cs) else positive (decimal (c ∷ cs))

-- the number, if it isn't negative
abbrev pub natural : Option ℤ → Option ℕ
natural None = None
natural (Some (pos n)) = Some n
natural (Some (negsuc n)) = None

unfoldable pub natural_of : List ℕ → Option ℕ
natural_of t = natural (number_of t)

-- 1 for T, 0 for F
unfoldable pub truth_of : List ℕ → Option ℤ
truth_of t = if bytes_eq t (codes "T") then Some (pos 1) else if bytes_eq t (codes "F") then Some (pos 0) else None

-- the value of this kind that a word is
abbrev pub value_of : Scalar → List ℕ → Option ℤ
value_of Int t = number_of t
value_of Bool t = truth_of t
