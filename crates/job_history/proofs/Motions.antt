-- What a motion makes of entries that are kept from the bottom up.
use Rattle.std.proofs.Common.{◌≡◌, ℕ, ◌+◌, ◌-◌, ◌≤◌, List, ◌++◌, length, take, drop, ap, ◌∙◌, arith}
use Rattle.std.proofs.Common.{append_assoc, length-append, length-drop, drop-drop}
use Rattle.std.specs.Prelude.{reverse}
use Rattle.std.proofs.lemmas.List.{drop-take, get_or-drop, get_or-reverse, get_or-take, length-reverse, length-take}
use Rattle.std.proofs.lemmas.List.{reverse-append, reverse-reverse, same_lists, take-append-drop, take-take, take_at}
use Rattle.vcode_base.specs.declared.op.StackMove.{StackMove}
use Rattle.vcode_base.specs.Motions.{entries_after_move}
use Rattle.job_steps.specs.Motions.{stack_after_move}

-- what is taken off at the head goes at the end of the list in reverse
pub drop-reverse : {E : Type 0} (n : ℕ) (xs : List E) → drop n (reverse xs) ≡ reverse (take (length xs - n) xs)
drop-reverse n xs = same_lists _ _ (grind (arith, length-reverse, length-drop, length-take))
    (λ k d lt. grind (arith, get_or-reverse, get_or-drop, get_or-take, length-reverse, length-drop, length-take))

take-reverse : {E : Type 0} (n : ℕ) (xs : List E) → take n (reverse xs) ≡ reverse (drop (length xs - n) xs)
take-reverse n xs = same_lists _ _ (grind (arith, length-reverse, length-drop, length-take))
    (λ k d lt. grind (arith, get_or-reverse, get_or-drop, get_or-take, length-reverse, length-drop, length-take))

ruleset cuts = (drop-reverse, take-reverse, reverse-append, reverse-reverse, length-reverse, length-take, length-drop)

-- of the entries that lie on those below a motion's, the lower ones and the upper ones are moved
module _ {E : Type 0} (xs : List E) (lower upper : ℕ) where
  abbrev pub rest : ℕ → List E
  rest depth = drop (depth - (lower + upper)) xs

  moved : (motion : StackMove) → lower + upper ≤ length xs → reverse (take (length xs - (lower + upper)) xs
      ++ entries_after_move motion (take lower (rest (length xs))) (drop lower (rest (length xs))))
      ≡ stack_after_move motion lower upper (reverse xs)
  moved motion there = grind (arith, cuts, drop-drop, take-take, drop-take)

  pub shifted : (ys : List E) (depth : ℕ) (motion : StackMove) → lower + upper ≤ length xs → depth ≡ length xs →
      ys ≡ take (depth - (lower + upper)) xs
      ++ entries_after_move motion (take lower (rest depth)) (drop lower (rest depth)) →
      reverse ys ≡ stack_after_move motion lower upper (reverse xs)
  shifted ys depth motion there long is = ap reverse is ∙ rw long (moved motion there)

  -- the lower ones once more after all
  pub copied : (ys : List E) (n : ℕ) → ys ≡ xs ++ take lower (drop n xs) →
      ys ≡ take n xs ++ (take lower (drop n xs) ++ (drop lower (drop n xs) ++ take lower (drop n xs)))
  copied ys n is =
      let whole : take n xs ++ (take lower (drop n xs) ++ drop lower (drop n xs)) ≡ xs = simp take-append-drop in
      let all = append_assoc (take n xs) (take lower (drop n xs) ++ drop lower (drop n xs)) (take lower (drop n xs)) in
      let high = append_assoc (take lower (drop n xs)) (drop lower (drop n xs)) (take lower (drop n xs)) in
      cc

  -- the lower ones after the others, and then without them
  pub removed : (ys zs : List E) (depth : ℕ) → lower + upper ≤ length xs → depth ≡ length xs →
      ys ≡ take (depth - (lower + upper)) xs ++ (drop lower (rest depth) ++ take lower (rest depth)) →
      zs ≡ take (depth - lower) ys → zs ≡ take (depth - (lower + upper)) xs ++ drop lower (rest depth)
  removed ys zs depth there long is cut =
      grind (arith, append_assoc, take_at, length-append, length-take, length-drop)
