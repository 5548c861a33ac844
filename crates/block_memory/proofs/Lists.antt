-- Lemmas on values that may be missing, and on lists of them.
use Rattle.std.proofs.Common.{◌≡◌, ℕ, ◌+◌, ◌<◌, List, [], ◌∷◌, Bool, length, map, slice_set, Option, Some, None}
use Rattle.std.proofs.Common.{replicate, zero, suc, is_some, IsSome, Vec, true, false, cond, slice_index_or, ◌≤◌, refl}
use Rattle.std.proofs.Common.{ap, arith}
use Rattle.std.specs.Vec.{with_items}
use Rattle.std.proofs.lemmas.List.{get_or_past, with_items_is}
use Rattle.std.proofs.lemmas.List.Sums.{sum_by-set, sum_by-cons}
use Rattle.block_memory.specs.Table.{value_at, value_count}
use Rattle.block_memory.specs.BlocksWritten.{IsLengthened}

module _ {X : Type 0} where
  -- a value that is there is one value
  pub same_some : (x y : X) → Some x ≡ Some y → x ≡ y
  same_some x y e = cc

  -- nothing is no value
  pub None≢Some : (x : X) → None ≡ Some x → ⊥
  None≢Some x e = cc

  pub None-not_some : (o : Option X) → o ≡ None → IsSome o → ⊥
  None-not_some o e h = cc

-- a test has one answer
pub true-not_false : (b : Bool) → b ≡ true → b ≡ false → ⊥
true-not_false b t f = cc

module _ {T : Type 0} where
  -- no number has a value at first
  pub value_at-none : (most n : ℕ) → value_at {T = T} (replicate most None) n ≡ None
  value_at-none zero n = refl
  value_at-none (suc most) zero = refl
  value_at-none (suc most) (suc n) = value_at-none most n

  -- a number with a value is in range
  pub IsSome-in_range : (slots : List (Option T)) (n : ℕ) → IsSome (value_at slots n) → n < length slots
  IsSome-in_range slots n h = grind (arith, get_or_past)

  -- a value goes to an empty number
  pub value_count-insert : (slots : List (Option T)) (n : ℕ) (v : T) → n < length slots → value_at slots n ≡ None
      → value_count (slice_set slots n (Some v)) ≡ value_count slots + 1
  value_count-insert slots n v h e = grind (arith, is_some, sum_by-set)

  -- the value of a number goes
  pub value_count-remove : (slots : List (Option T)) (n : ℕ) → IsSome (value_at slots n)
      → value_count (slice_set slots n None) + 1 ≡ value_count slots
  value_count-remove slots n h = grind (arith, is_some, sum_by-set, IsSome-in_range)

  -- another value comes in the place of one
  pub value_count-set : (slots : List (Option T)) (n : ℕ) (v : T) → IsSome (value_at slots n)
      → value_count (slice_set slots n (Some v)) ≡ value_count slots
  value_count-set slots n v h = grind (arith, is_some, sum_by-set, IsSome-in_range)

-- a list has as many values as one that is made of it value by value
pub value_count-map : {X Y : Type 0} (f : Option X → Option Y) → ((o : Option X) → is_some (f o) ≡ is_some o)
    → (slots : List (Option X)) → value_count (map f slots) ≡ value_count slots
value_count-map f same [] = refl
value_count-map f same (o ∷ slots) =
    let one_if : Bool → ℕ = λ b. cond b 1 0 in
    let first : one_if (is_some (f o)) ≡ one_if (is_some o) = ap one_if (same o) in
    let others = value_count-map f same slots in
    let made = sum_by-cons (λ p. one_if (is_some p)) (f o) (map f slots) in
    let given = sum_by-cons (λ p. one_if (is_some p)) o slots in
    omega (arith, first, others, made, given)

-- what a vector keeps after its elements were written over
pub items_after_write : {X Z : Type 0} (v : Vec X Z) (old new : List X) → old ≡ v.items → length new ≡ length old
    → (with_items v new).items ≡ new
items_after_write v old new whole same = grind (arith, with_items_is)

module _ {X : Type 0} where
  -- a list that gets items past its end
  pub with_more : (old new : List X) (len : ℕ) → length old ≤ len → length new ≡ len
      → ((k : ℕ) (d : X) → k < len → k < length old → slice_index_or new k d ≡ slice_index_or old k d)
      → IsLengthened old new len
  with_more old new len h long kept = grind arith
