-- Lists that are kept backwards, and a list whose first element moves after the others.
use Rattle.std.proofs.lemmas.Grind.{common_steps}
use Rattle.std.proofs.Common.{◌≡◌, ℕ, ◌+◌, ◌-◌, ◌<◌, ◌≤◌, List, [], ◌∷◌, ◌++◌, length, take, drop, refl, sym, ◌∙◌, ap}
use Rattle.std.proofs.Common.{suc, arith, append_assoc, drop-drop, length-drop, length-take-le, slice_set}
use Rattle.std.proofs.Common.{slice_index_or}
use Rattle.std.specs.Prelude.{reverse}
use Rattle.std.proofs.lemmas.List.{reverse-append, reverse-reverse, length-reverse, take-append-drop, take_at, drop_at}
use Rattle.vcode_base.specs.declared.op.StackMove.{StackMove}
use Rattle.vcode_base.specs.declared.op.StackMove.TheVariants.{Copy, Pop, MoveToTop}
use Rattle.vcode_base.specs.Motions.{entries_after_move}
use Rattle.job_steps.specs.Motions.{stack_after_move}
use Rattle.job_steps.specs.Piles.{PileState}

-- without its last elements
pub reverse_front : {T : Type 0} (xs : List T) (n : ℕ) → n ≤ length xs →
    reverse (take (length xs - n) xs) ≡ drop n (reverse xs)
reverse_front xs n h =
    let k = length xs - n in
    let whole : reverse xs ≡ reverse (drop k xs) ++ reverse (take k xs) = ap reverse (sym (take-append-drop k xs)) ∙
    reverse-append (take k xs) (drop k xs) in
    let long : length (reverse (drop k xs)) ≡ n = omega (arith, length-reverse (drop k xs), length-drop k xs) in
    sym (ap (drop n) whole ∙ drop_at (reverse (drop k xs)) (reverse (take k xs)) n long)

-- what a motion takes, in three parts from the bottom up
module _ {E : Type 0} (base low up : List E) where
  under : drop (length up) (reverse (base ++ (low ++ up))) ≡ reverse low ++ reverse base
  under = grind (arith, reverse-append, append_assoc, drop_at, length-reverse)

  rest : drop (length low) (drop (length up) (reverse (base ++ (low ++ up)))) ≡ reverse base
  rest = ap (drop (length low)) under ∙ drop_at (reverse low) (reverse base) (length low) (length-reverse low)

  pub moved : (motion : StackMove) → reverse (base ++ entries_after_move motion low up) ≡ stack_after_move motion
      (length low) (length up) (reverse (base ++ (low ++ up)))
  moved motion = grind (arith, reverse-append, under, take_at, length-reverse, reverse-reverse, append_assoc, rest)

-- ---- as a Vec has them

-- the entries that lie on those below a motion's, the lower ones and the upper ones
module _ {E : Type 0} (xs : List E) (lower upper : ℕ) (there : lower + upper ≤ length xs) where
  abbrev below : ℕ
  below = length xs - (lower + upper)

  abbrev tail : List E
  tail = drop below xs

  abbrev low : List E
  low = take lower tail

  abbrev up : List E
  up = drop lower tail

  in_three : xs ≡ take below xs ++ (low ++ up)
  in_three = sym (ap (λ ys. take below xs ++ ys) (take-append-drop lower tail) ∙ take-append-drop below xs)

  moved_by : (motion : StackMove) → reverse (take below xs ++ entries_after_move motion low up) ≡ stack_after_move
      motion lower upper (reverse xs)
  moved_by motion = grind (arith, moved, length-take-le, length-drop, in_three)

  -- the lower ones once more after all
  pub copied : reverse (xs ++ low) ≡ stack_after_move Copy lower upper (reverse xs)
  copied = grind (arith, common_steps, in_three)

  -- the lower ones after the others
  pub turned : reverse (take below xs ++ (up ++ low)) ≡ stack_after_move MoveToTop lower upper (reverse xs)
  turned = moved_by MoveToTop

  -- and without them
  pub removed : reverse (take below xs ++ up) ≡ stack_after_move Pop lower upper (reverse xs)
  removed = moved_by Pop

-- the lower ones, copied after all and then taken out, are after the others
module _ {E : Type 0} (xs : List E) (below lower : ℕ) (there : below + lower ≤ length xs) where
  abbrev above : List E
  above = drop below xs

  abbrev front : List E
  front = take lower above

  pub turned_by_copy : take below (xs ++ front) ++ drop (below + lower) (xs ++ front) ≡ take below xs ++
      (drop lower above ++ front)
  turned_by_copy =
      grind (arith, common_steps)

-- ---- what a pile is then

abbrev pile : {E : Type 0} → List E → ℕ → PileState E
pile xs room = record { entries = reverse xs; room = room }

module _ {E : Type 0} (old : PileState E) (xs ys : List E) (room : ℕ) (is : pile xs room ≡ old) where
  pub lowered : (count len : ℕ) → count ≤ length old.entries → len ≡ length xs → ys ≡ take (len - count) xs →
      pile ys room ≡ record old { entries = drop count old.entries }
  lowered count len there long h = grind (arith, reverse_front, length-reverse)

  module _ (lower upper len : ℕ) (there : lower + upper ≤ length old.entries) (long : len ≡ length xs) where
    abbrev place : ℕ
    place = len - (lower + upper)

    enough : lower + upper ≤ length xs
    enough = grind (arith, length-reverse)

    shifted_by : (motion : StackMove) → reverse ys ≡ stack_after_move motion lower upper (reverse xs) →
        pile ys room ≡ record old { entries = stack_after_move motion lower upper old.entries }
    shifted_by motion = grind arith

    pub shifted_copy : ys ≡ xs ++ take lower (drop place xs) → pile ys room ≡ record old
        { entries = stack_after_move Copy lower upper old.entries }
    shifted_copy h = grind (arith, copied, enough)

    pub shifted_top : ys ≡ take place xs ++ (drop lower (drop place xs) ++ take lower (drop place xs)) →
        pile ys room ≡ record old { entries = stack_after_move MoveToTop lower upper old.entries }
    shifted_top h = grind (arith, turned, enough)

    pub shifted_pop : ys ≡ take place xs ++ drop (place + lower) xs →
        pile ys room ≡ record old { entries = stack_after_move Pop lower upper old.entries }
    shifted_pop h =
        shifted_by Pop (ap reverse (h ∙ (ap (λ zs. take place xs ++ zs) (sym (drop-drop lower place xs)) ∙ ap
        (λ n. take (n - (lower + upper)) xs ++ drop lower (drop (n - (lower + upper)) xs)) long)) ∙
        removed xs lower upper enough)

-- the first element after the n that follow it
abbrev shifted : {T : Type 0} → ℕ → List T → List T
shifted n xs = take n (drop 1 xs) ++ drop n xs

next : {T : Type 0} (x : T) (rest : List T) (n : ℕ) (z : T) → n < length rest →
    slice_index_or (take n rest ++ drop n (x ∷ rest)) (suc n) z ≡ slice_index_or rest n z
next x [] n z h = absurd (omega arith)
next x (y ∷ rest) n z h = grind (arith, (next y rest))

set_next : {T : Type 0} (x : T) (rest : List T) (n : ℕ) (z : T) → n < length rest →
    slice_set (take n rest ++ drop n (x ∷ rest)) n (slice_index_or rest n z) ≡ take (suc n) rest ++ drop (suc n)
    (x ∷ rest)
set_next x [] n z h = absurd (omega arith)
set_next x (y ∷ rest) n z h = grind (arith, (set_next y rest))

set_last : {T : Type 0} (first x : T) (rest : List T) → slice_set
    (take (length rest) rest ++ drop (length rest) (x ∷ rest)) (length rest) first ≡ rest ++ first ∷ []
set_last first x [] = refl
set_last first x (y ∷ rest) = ap (λ l. y ∷ l) (set_last first y rest)

-- one more
pub moved_one : {T : Type 0} (xs ys : List T) (n : ℕ) (z : T) → n + 1 < length xs → ys ≡ shifted n xs →
    z ≡ slice_index_or ys (n + 1) z → slice_set ys n z ≡ shifted (n + 1) xs
moved_one xs ys n z h is read = grind (arith, next, set_next)

-- and then the first at the end
pub moved_all : {T : Type 0} (xs ys : List T) (n last : ℕ) (first z : T) → 0 < length xs → last ≡ length xs - 1 →
    n ≡ last → ys ≡ shifted n xs → first ≡ slice_index_or xs 0 z → slice_set ys last first ≡ drop 1 xs ++ take 1 xs
moved_all xs ys n last first z h last_is n_is is read = grind (arith, common_steps, set_last)

-- what `as_slice` needs
pub ruleset of_slice = (reverse-reverse)
