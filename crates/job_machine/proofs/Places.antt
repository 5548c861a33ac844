-- Lists with one place changed.
use Rattle.std.proofs.Common.{arith, ◌≡◌, ℕ, List, [], ◌∷◌, length, set, slice_get, Some, refl, inl, inr}
use Rattle.std.proofs.lemmas.Option.{none-some, same_Some, slice_get_cases, slice_get_within}

pub get-set_same : {X : Type 0} (xs : List X) (i : ℕ) (x y : X) → slice_get xs i ≡ Some x →
    slice_get (set xs i y) i ≡ Some y
get-set_same [] i x y e = absurd (none-some x e)
get-set_same (z ∷ xs) i x y e = grind (arith, (get-set_same xs))

pub get-set_other : {X : Type 0} (xs : List X) (i j : ℕ) (y : X) → (j ≡ i → ⊥) →
    slice_get (set xs i y) j ≡ slice_get xs j
get-set_other [] i j y ne = refl
get-set_other (z ∷ xs) i j y ne = grind (arith, (get-set_other xs))

pub set_back : {X : Type 0} (xs : List X) (i : ℕ) (x : X) → slice_get xs i ≡ Some x → set xs i x ≡ xs
set_back [] i x e = refl
set_back (z ∷ xs) i x e = grind (arith, same_Some, (set_back xs))

-- lists of one length have something at the same places
pub beside_at : {X Y : Type 0} (xs : List X) (ys : List Y) → length ys ≡ length xs → (i : ℕ) (x : X) →
    slice_get xs i ≡ Some x → (y : Y) × (slice_get ys i ≡ Some y)
beside_at xs ys same i x e = elim ((slice_get_cases ys i).1) [
  | inl found ↦ (found.0, found.2)
  | inr past ↦ absurd (omega (arith, past.0, slice_get_within xs i x e, same))
]
