-- Words that are lent to the writer of a block.
use Rattle.std.proofs.Common.{◌≡◌, ℕ, ℤ, ◌+◌, ◌-◌, ◌≤◌, List, [], ◌∷◌, ◌++◌, length, map, take, drop, refl, arith}
use Rattle.std.proofs.Common.{length-append}
use Rattle.std.proofs.Math.Seq.{drop-append-add}
use Rattle.std.proofs.lemmas.List.{take-map, length-map}
use Rattle.std.specs.Prelude.{slice_index_or}
use Rattle.std.specs.Borrow.{Bor}
use Rattle.block_memory.specs.Writing.{contents}

-- words after the block
pub words_behind : (before block behind : List ℤ) (len place count at many : ℕ) → length block ≡ len →
    length before + len ≤ place → at ≡ place - (length before + len) → many ≡ count →
    take many (drop at behind) ≡ take count (drop place (before ++ block ++ behind))
words_behind before block behind len place count at many size below at_is many_is =
    grind (arith, length-append before block, drop-append-add (before ++ block) behind at)

-- what stands at five places
pub five_at : {T : Type 0} (d : T) (xs : List T) (a b c e f : T) → length xs ≤ 5 → a ≡ slice_index_or xs 0 d →
    b ≡ slice_index_or xs 1 d → c ≡ slice_index_or xs 2 d → e ≡ slice_index_or xs 3 d → f ≡ slice_index_or xs 4 d →
    take (length xs) (a ∷ b ∷ c ∷ e ∷ f ∷ []) ≡ xs
five_at d [] a b c e f h p q r s t = refl
five_at d (x ∷ []) a b c e f h p q r s t = cc
five_at d (x ∷ y ∷ []) a b c e f h p q r s t = cc
five_at d (x ∷ y ∷ z ∷ []) a b c e f h p q r s t = cc
five_at d (x ∷ y ∷ z ∷ u ∷ []) a b c e f h p q r s t = cc
five_at d (x ∷ y ∷ z ∷ u ∷ v ∷ []) a b c e f h p q r s t = cc
five_at d (x ∷ y ∷ z ∷ u ∷ v ∷ w ∷ xs) a b c e f h p q r s t = absurd (omega arith)

-- lists that are lent, one for each of five places
pub lent : (n : ℕ) (ws : List (List ℤ)) (a b c d e : Bor (List ℤ)) → n ≡ length ws → length ws ≤ 5 →
    a.now ≡ slice_index_or ws 0 [] → b.now ≡ slice_index_or ws 1 [] → c.now ≡ slice_index_or ws 2 [] →
    d.now ≡ slice_index_or ws 3 [] → e.now ≡ slice_index_or ws 4 [] →
    contents (take n (a ∷ b ∷ c ∷ d ∷ e ∷ [])) ≡ ws
lent n ws a b c d e long few first second third fourth fifth =
    let five = five_at [] ws a.now b.now c.now d.now e.now few first second third fourth fifth in
    grind (arith, take-map (λ (r : Bor (List ℤ)). r.now) n (a ∷ b ∷ c ∷ d ∷ e ∷ []))

pub map_twice : {X Y Z : Type 0} (f : X → Y) (h : Y → Z) (xs : List X) → map h (map f xs) ≡ map (λ x. h (f x)) xs
map_twice f h [] = refl
map_twice f h (x ∷ xs) = grind (arith, map_twice f h xs)

-- ---- what proofs of functions use

pub ruleset for_words_outside = (words_behind)

pub ruleset for_write_between = (length-map, lent)
