-- What is left of a quotient or a shifted number in 64 bits.
use Rattle.std.proofs.Common.{◌≡◌, ℕ, false, ◌^◌, ◌<◌, ◌≤◌, ℤ, pos, ◌*ℤ◌, arith, FitsSigned, w64, to_z, of_z}
use Rattle.std.proofs.Common.{unsigned_abs}
use Rattle.std.specs.Prelude.{int_div}
use Rattle.std.specs.Int.{int_wrap, int_shl}
use Rattle.std.proofs.Math.Nat.{mod-eq_of_lt, div-le_self}
use Rattle.std.proofs.lemmas.Nat.{pow_below}
use Rattle.std.proofs.lemmas.Int.{ints, to_z-of_z, wrapping_mul-bits, int_wrap-mul_right}
use Rattle.vcode_base.specs.Elements.{wrap, is_outside}

-- a number of fewer than 65 bits, read from its lowest 64
wrap-below : (z : ℤ) → unsigned_abs z < 2 ^ 64 → to_z w64 (of_z w64 z) ≡ wrap z
unfolding int_wrap
wrap-below z h = grind (arith, ints)

-- a quotient is no greater than its dividend
unsigned_abs-int_div : (a b : ℤ) → unsigned_abs (int_div a b) ≤ unsigned_abs a
unsigned_abs-int_div a b = grind (arith, div-le_self)

unsigned_abs-fits : (a : ℤ) → FitsSigned w64 a → unsigned_abs a ≤ 2 ^ 63
unsigned_abs-fits a h = omega (arith, ints)

pub quotient-below : (a b : ℤ) → FitsSigned w64 a → to_z w64 (of_z w64 (int_div a b)) ≡ wrap (int_div a b)
quotient-below a b fits =
    wrap-below (int_div a b) (omega (arith, unsigned_abs-int_div a b, unsigned_abs-fits a fits))

pub ruleset quotients = (quotient-below, to_z-of_z)

-- what `<<` makes of a and k
pub shifted : (a : ℤ) (k : ℕ) → FitsSigned w64 a → k < 64 → int_shl w64 a k ≡ wrap (a *ℤ pos (2 ^ k))
shifted a k fits small =
    let power : 2 ^ k < 2 ^ 64 = pow_below _ 64 small in
    grind (
      arith,
      to_z-of_z,
      wrapping_mul-bits w64 (of_z w64 a) (2 ^ k) (omega (arith, ints)) power,
      wrap-below (pos (2 ^ k)) power,
      int_wrap-mul_right w64 a (pos (2 ^ k)),
    )

-- the numbers 0 .. n - 1 are below n
pub unsigned_abs-inside : (n : ℕ) (i : ℤ) → is_outside n i ≡ false → unsigned_abs i < n
unsigned_abs-inside n i h = grind (arith, ints)

pub ruleset shifts = (shifted, unsigned_abs-inside, mod-eq_of_lt, to_z-of_z)
