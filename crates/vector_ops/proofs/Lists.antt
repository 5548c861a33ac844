-- A list that is written place by place is the one that the definitions name.
use Rattle.std.proofs.Common.{◌≡◌, ℕ, ◌+◌, ◌<◌, ◌≤◌, ℤ, pos, Bool, false, List, [], ◌∷◌, ◌++◌, length, map, get_or}
use Rattle.std.proofs.Common.{take, refl, arith, suc}
use Rattle.std.specs.List.{list_any, zip}
use Rattle.std.proofs.lemmas.Grind.{common_steps}
use Rattle.std.proofs.lemmas.Int.{to_z-of_z}
use Rattle.std.proofs.lemmas.Slice.Zip.{get_or-zip, length-zip}
use Rattle.std.proofs.lemmas.List.{map_more, take_all}
use Rattle.vcode_base.specs.Meaning.{two_by_two}
use Rattle.vector_ops.specs.Alike.{AreAll}

-- ---- one more place, and all of them

pub pairs_more : {X Y : Type 0} (xs : List X) (ys : List Y) (g : X × Y → ℤ) (i : ℕ) (d : X × Y)
    → length ys ≡ length xs → i < length xs
    → map g (take (i + 1) (zip xs ys)) ≡ map g (take i (zip xs ys)) ++ g (get_or xs i d.0, get_or ys i d.1) ∷ []
pairs_more xs ys g i d same here =
    grind (arith, map_more g (zip xs ys) i d, get_or-zip xs ys i d, length-zip xs ys)

pub all_pairs : {X Y : Type 0} (xs : List X) (ys : List Y) (n : ℕ) → length ys ≡ length xs → length xs ≤ n
    → take n (zip xs ys) ≡ zip xs ys
all_pairs xs ys n same all = take_all n (zip xs ys) (omega (arith, length-zip xs ys))

pub ruleset places = (common_steps, map_more, all_pairs, length-zip, to_z-of_z)

-- ---- lists of one number

-- the first part shows `grind` the list
pub one_element : (xs : List ℤ) → length xs ≡ 1 → (length xs ≡ 1) × (xs ≡ get_or xs 0 (pos 0) ∷ [])
one_element [] e = absurd (omega arith)
one_element (x ∷ []) e = (refl, refl)
one_element (x ∷ y ∷ xs) e = absurd (omega arith)

pub ruleset one_place = (one_element, to_z-of_z)

-- ---- lists whose elements are all the same

pub none_alike : (p : ℤ → Bool) (xs : List ℤ) (n : ℤ) → p n ≡ false → AreAll n xs → list_any p xs ≡ false
none_alike p [] n fails all = refl
none_alike p (x ∷ xs) n fails all =
    grind (arith, all 0 (omega arith), none_alike p xs n fails (λ k h. all (suc k) (omega arith)))

pub made_alike : (f : ℤ → ℤ → ℤ) (xs ys : List ℤ) (n : ℤ) → length ys ≡ length xs → AreAll n ys
    → map (λ x. f x n) xs ≡ two_by_two f xs ys
made_alike f [] ys n same all = refl
made_alike f (x ∷ xs) [] n same all = absurd (omega arith)
made_alike f (x ∷ xs) (y ∷ ys) n same all =
    grind (arith, all 0 (omega arith), made_alike f xs ys n (omega arith) (λ k h. all (suc k) (omega arith)))

-- ---- tests of elements

-- a test that never holds
pub none_refused : (xs : List ℤ) → list_any (λ _. false) xs ≡ false
none_refused [] = refl
none_refused (x ∷ xs) = none_refused xs

pub list_any-map : {X Y : Type 0} (p : Y → Bool) (f : X → Y) (xs : List X)
    → list_any p (map f xs) ≡ list_any (λ x. p (f x)) xs
list_any-map p f [] = refl
list_any-map p f (x ∷ xs) = grind (arith, list_any-map p f xs)
