-- If no index comes twice, each element is at its index.
use Rattle.std.proofs.Common.{◌≡◌, ℕ, zero, suc, ◌<◌, ℤ, pos, false, List, [], ◌∷◌, length}
use Rattle.std.proofs.Common.{get_or, zip, refl, arith, zero-add, unsigned_abs}
use Rattle.std.specs.List.{list_any, enumerate_from}
use Rattle.std.proofs.lemmas.List.{get_or-map, length-replicate}
use Rattle.std.proofs.lemmas.List.Folds.{list_any_at}
use Rattle.std.proofs.lemmas.List.FromFn.{get_or-enumerate_from, length-enumerate_from}
use Rattle.vcode_base.specs.Elements.{is_outside}
use Rattle.vcode_base.specs.Segments.{names, arrival, scatter_of, has_twice}
use Rattle.vcode_base.specs.Laws.{EachElementAtItsIndex}

unnamed : (is xs : List ℤ) (q : ℕ) (d : ℤ) → list_any (names q) is ≡ false → arrival (zip is xs) q d ≡ d
unnamed [] xs q d none = refl
unnamed (i ∷ is) [] q d none = refl
unnamed (i ∷ is) (x ∷ xs) q d none = grind (arith, unnamed is xs q d)

-- if no two indices are equal, the element at p arrives at its index
arrives : (is xs : List ℤ) (p : ℕ) (d : ℤ) → has_twice is ≡ false → length is ≡ length xs → p < length xs
    → arrival (zip is xs) (unsigned_abs (get_or is p (pos 0))) d ≡ get_or xs p (pos 0)
arrives [] xs p d once same h = absurd (omega arith)
arrives (i ∷ is) [] p d once same h = absurd (omega arith)
arrives (i ∷ is) (x ∷ xs) zero d once same h = grind (arith, unnamed is xs (unsigned_abs i) x)
arrives (i ∷ is) (x ∷ xs) (suc p) d once same h = grind (arith, arrives is xs p)

inside : (n : ℕ) (is : List ℤ) (p : ℕ) → list_any (is_outside n) is ≡ false → p < length is
    → unsigned_abs (get_or is p (pos 0)) < n
inside n is p h l = grind (arith, list_any_at (is_outside n) is p (pos 0))

-- the element at place q of a moved list
moved_at : (xs is there : List ℤ) (q : ℕ) → q < length there → get_or (scatter_of xs is there) q (pos 0)
    ≡ arrival (zip is xs) q (get_or there q (pos 0))
moved_at xs is there q h =
    rw (
      get_or-map (λ (p : ℕ × ℤ). arrival (zip is xs) p.0 p.1) (enumerate_from 0 there) q (0, pos 0) (pos 0)
          (simp (length-enumerate_from 0 there) h),
      get_or-enumerate_from 0 there q (0, pos 0) h,
      zero-add,
    ) refl

pub each_element_at_its_index : EachElementAtItsIndex
each_element_at_its_index xs is same in_range once p h =
    let near = inside (length xs) is p in_range (omega arith) in
    grind (arith, near, length-replicate, moved_at, arrives is xs p)
