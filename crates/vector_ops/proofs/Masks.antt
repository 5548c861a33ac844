-- A choice by a mask of bits.
use Rattle.std.proofs.Common.{◌≡◌, ℕ, ◌<◌, ◌^◌, ◌-◌, ℤ, pos, ◌-ℤ◌, if◌then◌else◌, arith, bit_and, bit_xor, FitsSigned}
use Rattle.std.proofs.Common.{w64, to_z, of_z}
use Rattle.std.specs.Int.Bits.{and_zero_r, xor_zero_l, xor_zero_r, xor_self, xor_assoc}
use Rattle.std.proofs.Math.Nat.{mod-eq_of_lt}
use Rattle.std.proofs.lemmas.Int.{ints, to_z-of_z}
use Rattle.std.proofs.lemmas.Nat.{and_mask, xor_comm, xor_lt}
use Rattle.vcode_base.specs.Elements.{is_set}
use Rattle.vcode_base.specs.Kinds.{IsFlag}

-- the bits of b, with those of a in their place if the mask has ones there
all_ones : (a b : ℕ) → a < 2 ^ 64 → b < 2 ^ 64 → bit_xor b (bit_and (bit_xor a b) (2 ^ 64 - 1)) ≡ a
all_ones a b a_fits b_fits =
    rw (and_mask (bit_xor a b) 64, mod-eq_of_lt (xor_lt 64 a b a_fits b_fits), xor_comm a b)
    (rw (← xor_assoc b b a, xor_self b) (xor_zero_l a))

no_ones : (a b : ℕ) → bit_xor b (bit_and (bit_xor a b) 0) ≡ b
no_ones a b = grind (arith, and_zero_r, xor_zero_r)

-- what the code makes of a flag and two numbers
pub chosen : (flag a b : ℤ) → IsFlag flag → FitsSigned w64 a → FitsSigned w64 b
    → to_z w64 (bit_xor (of_z w64 b) (bit_and (bit_xor (of_z w64 a) (of_z w64 b)) (of_z w64 (pos 0 -ℤ flag))))
    ≡ (if is_set flag then a else b)
chosen flag a b is a_fits b_fits =
    grind (
      arith,
      to_z-of_z,
      all_ones (of_z w64 a) (of_z w64 b) (omega (arith, ints)) (omega (arith, ints)),
      no_ones (of_z w64 a) (of_z w64 b),
    )
