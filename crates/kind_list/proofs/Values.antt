-- Numbers by their digits, the lowest first.
use Rattle.std.proofs.Common.{◌≡◌, ℕ, ◌+◌, ◌*◌, ◌/◌, ◌%◌, ◌^◌, ◌<◌, ◌≤◌, List, [], ◌∷◌, ◌++◌, length, take, drop, arith}
use Rattle.std.proofs.Math.Nat.{mul-zero, mul-suc}
use Rattle.std.proofs.lemmas.Nat.{pow_pos, pow-add, mul-add-lt, shr_high, mod_low}
use Rattle.std.proofs.lemmas.List.{take-append-drop, length-take-le}

-- the value of digits of this many bits
pub record IsValue {A : Type 0} (value : List A → ℕ) (bits : ℕ) (digit : A → ℕ) : Type 0 where
  pub none : value [] ≡ 0
  pub more : (x : A) (xs : List A) → value (x ∷ xs) ≡ value xs * 2 ^ bits + digit x
  pub small : (x : A) → digit x < 2 ^ bits

module _ {A : Type 0} {value : List A → ℕ} {bits : ℕ} {digit : A → ℕ} (v : IsValue value bits digit) where
  pub value-lt : (xs : List A) → value xs < 2 ^ (bits * length xs)
  value-lt [] = rw v.none (pow_pos (bits * 0))
  value-lt (x ∷ xs) =
      rw (v.more x xs, mul-suc bits (length xs), pow-add 2 (bits * length xs) bits)
      (omega (arith, mul-add-lt (value xs) (2 ^ bits) (digit x) _ (value-lt xs) (v.small x)))

  pub value-append : (xs ys : List A) → value (xs ++ ys) ≡ value ys * 2 ^ (bits * length xs) + value xs
  value-append [] ys = rw (v.none, mul-zero bits) (omega arith)
  value-append (x ∷ xs) ys =
      simp (v.more, value-append xs ys, mul-suc, pow-add) (omega arith)

  pub value-drop : (i : ℕ) (xs : List A) → i ≤ length xs → value xs / 2 ^ (bits * i) ≡ value (drop i xs)
  value-drop i xs within =
      let parts = value-append (take i xs) (drop i xs) in
      grind (arith, parts, value-lt (take i xs), take-append-drop i xs, length-take-le i xs within, shr_high)

  pub value-take : (i : ℕ) (xs : List A) → i ≤ length xs → value xs % 2 ^ (bits * i) ≡ value (take i xs)
  value-take i xs within =
      let parts = value-append (take i xs) (drop i xs) in
      grind (arith, parts, value-lt (take i xs), take-append-drop i xs, length-take-le i xs within, mod_low)
