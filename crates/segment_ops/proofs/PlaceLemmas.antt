-- Places that indices name: elements that go to them, and two indices that name one place.
use Rattle.std.proofs.Common.{◌≡◌, ℕ, ◌+◌, ◌<◌, ◌≤◌, ℤ, pos, true, false, List, [], ◌∷◌, length, map}
use Rattle.std.proofs.Common.{drop, set, get_or, zip, refl, ap, sym, ◌∙◌, arith, zero, suc, unsigned_abs, inl, inr}
use Rattle.std.proofs.Common.{length-set, get_or-set_same, get_or-set_other, zero-add, if◌then◌else◌}
use Rattle.std.specs.List.{list_any, enumerate_from}
use Rattle.std.proofs.lemmas.Bool.{cases_eq}
use Rattle.std.proofs.lemmas.Bool.Decides.{nat_tests}
use Rattle.std.proofs.lemmas.Grind.{common_steps}
use Rattle.std.proofs.lemmas.Int.{ints, to_z-of_z}
use Rattle.std.proofs.lemmas.List.{drop_more, drop_all, ext_get_or, length-map, get_or-map, get_or_default}
use Rattle.std.proofs.lemmas.List.Folds.{list_any_at, list_any_none}
use Rattle.std.proofs.lemmas.List.FromFn.{length-enumerate_from, get_or-enumerate_from}
use Rattle.vcode_base.specs.Elements.{is_outside}
use Rattle.vcode_base.specs.Segments.{names, arrival, scatter_of, has_twice}
use Rattle.segment_ops.specs.Indices.{some_outside, place_of, AreWithin, HoldsClaims, IsSameBeside}

-- ---- indices that are within a segment, and that name places apart

pub none_outside : (n : ℕ) (is : List ℤ) → AreWithin n is → some_outside n is ≡ false
none_outside n is within =
    list_any_none (is_outside n) is (λ k d h. grind (arith, ints, get_or_default, within k h))

pub once_if : (is : List ℤ) → ((j m : ℕ) → j < m → m < length is → place_of is m ≡ place_of is j → ⊥)
    → has_twice is ≡ false
once_if [] apart = refl
once_if (i ∷ is) apart =
    let later = once_if is (λ j m before here. apart (suc j) (suc m) (omega arith) (omega arith)) in
    let none = list_any_none (names (unsigned_abs i)) is
    (λ k d h. grind (arith, nat_tests, get_or_default, apart 0 (suc k))) in
    grind (arith, later, none)

twice_at : (is : List ℤ) (j m : ℕ) → j < m → m < length is → place_of is m ≡ place_of is j → has_twice is ≡ true
twice_at [] j m before here same = absurd (omega arith)
twice_at (i ∷ is) j zero before here same = absurd (omega arith)
twice_at (i ∷ is) zero (suc m) before here same = grind (arith, nat_tests, list_any_at)
twice_at (i ∷ is) (suc j) (suc m) before here same =
    let later = twice_at is j m (omega arith) (omega arith) same in grind (arith, later)

pub ruleset bounds = (common_steps, none_outside, to_z-of_z, ints)

-- ---- elements that go to their indices

at_place : (A : ℕ → ℤ → ℤ) (out : List ℤ) (q : ℕ) → q < length out
    → get_or (map (λ (q, d). A q d) (enumerate_from 0 out)) q (pos 0) ≡ A q (get_or out q (pos 0))
at_place A out q inside =
    let listed : q < length (enumerate_from 0 out) = omega (arith, length-enumerate_from 0 out) in
    let pair = get_or-enumerate_from 0 out q (0, pos 0) inside in
    rw (get_or-map (λ (q, d). A q d) (enumerate_from 0 out) q (0, pos 0) (pos 0) listed, pair, zero-add q)

-- what A and B make of two lists is the same if it is the same at each place
same_after : (A B : ℕ → ℤ → ℤ) (ys zs : List ℤ) → length ys ≡ length zs
    → ((q : ℕ) → q < length ys → A q (get_or ys q (pos 0)) ≡ B q (get_or zs q (pos 0)))
    → map (λ (q, d). A q d) (enumerate_from 0 ys) ≡ map (λ (q, d). B q d) (enumerate_from 0 zs)
same_after A B ys zs long each =
    ext_get_or (pos 0) _ _ (grind (arith, length-map, length-enumerate_from))
    (λ q h. let inside : q < length ys = grind (arith, length-map, length-enumerate_from) in
    at_place A ys q inside ∙ each q inside ∙ sym (at_place B zs q (omega arith)))

-- out after the elements from k on have gone to their indices. It is opaque, so that `grind` sees its arguments.
unfoldable pub moved_from : List ℤ → List ℤ → ℕ → List ℤ → List ℤ
moved_from xs is k out = scatter_of (drop k xs) (drop k is) out

pub move_start : (xs is out : List ℤ) → moved_from xs is 0 out ≡ scatter_of xs is out
unfolding moved_from
move_start xs is out = refl

move_next : (x i : ℤ) (xs is out : List ℤ)
    → scatter_of (x ∷ xs) (i ∷ is) out ≡ scatter_of xs is (set out (unsigned_abs i) x)
move_next x i xs is out =
    same_after (λ q d. arrival (zip is xs) q (if names q i then x else d)) (arrival (zip is xs)) out
    (set out (unsigned_abs i) x) (grind (arith, length-set))
    (λ q h. ap (arrival (zip is xs) q) (grind (arith, nat_tests, get_or-set_same, get_or-set_other)))

pub move_more : (xs is : List ℤ) (k : ℕ) (out : List ℤ) → k < length xs → k < length is
    → moved_from xs is k out ≡ moved_from xs is (k + 1) (set out (place_of is k) (get_or xs k (pos 0)))
unfolding moved_from
move_more xs is k out h l =
    rw (drop_more xs k (pos 0) h, drop_more is k (pos 0) l)
    (move_next (get_or xs k (pos 0)) (get_or is k (pos 0)) (drop (k + 1) xs) (drop (k + 1) is) out)

pub move_end : (xs is : List ℤ) (k : ℕ) (out : List ℤ) → length xs ≤ k → length is ≤ k → moved_from xs is k out ≡ out
unfolding moved_from
move_end xs is k out h l = rw (drop_all k xs h, drop_all k is l)
    (ext_get_or (pos 0) _ _ (grind (arith, length-map, length-enumerate_from))
    (λ q h. at_place (λ q d. d) out q (grind (arith, length-map, length-enumerate_from))))

pub ruleset moves = (common_steps, move_start, move_more, move_end, to_z-of_z, ints)

-- what arrives at a place doesn't depend on what was there if an index names the place
arrival_same : (is xs : List ℤ) (q : ℕ) (d e : ℤ) → length is ≡ length xs → (list_any (names q) is ≡ false → d ≡ e)
    → arrival (zip is xs) q d ≡ arrival (zip is xs) q e
arrival_same [] xs q d e long unless = unless refl
arrival_same (i ∷ is) [] q d e long unless = absurd (omega arith)
arrival_same (i ∷ is) (x ∷ xs) q d e long unless =
    arrival_same is xs q _ _ (omega arith) (λ none. grind (arith, unless))

pub scattered_over : (xs is there claims : List ℤ) → length is ≡ length xs → length claims ≡ length there
    → IsSameBeside is there claims → scatter_of xs is claims ≡ scatter_of xs is there
scattered_over xs is there claims same long beside =
    same_after (arrival (zip is xs)) (arrival (zip is xs)) claims there long
    (λ q h. arrival_same is xs q _ _ same (beside q (omega arith)))

-- ---- indices whose places hold their numbers

-- one more place holds the number of its index
pub claim_more : (is out : List ℤ) (k : ℕ) → place_of is k < length out → HoldsClaims k is out
    → HoldsClaims (k + 1) is (set out (place_of is k) (pos k))
claim_more is out k inside so_far j h =
    elim (cases_eq (place_of is j) (place_of is k)) [
      | inl same ↦ (k, grind arith, omega arith, sym same, rw (same, get_or-set_same))
      | inr other ↦ let claim = so_far j (grind arith) in
          (claim.0, claim.1, omega (arith, claim.2), claim.3, rw get_or-set_other claim.4)
    ]

-- the places that none of the first k indices names hold in ys what they hold in xs
abbrev pub IsKept : List ℤ → ℕ → List ℤ → List ℤ → Type 0
IsKept is k xs ys = (q : ℕ) → ((j : ℕ) → j < k → place_of is j ≡ q → ⊥)
    → get_or ys q (pos 0) ≡ get_or xs q (pos 0)

pub kept_more : (is xs ys : List ℤ) (k : ℕ) (y : ℤ) → IsKept is k xs ys
    → IsKept is (k + 1) xs (set ys (place_of is k) y)
kept_more is xs ys k y so_far q apart =
    let before = so_far q (λ j h. apart j (omega arith)) in grind (arith, get_or-set_other, before, apart k)

pub kept_all : (is xs ys : List ℤ) → IsKept is (length is) xs ys → IsSameBeside is xs ys
kept_all is xs ys kept q h none = kept q (λ j before same. grind (arith, nat_tests, list_any_at))

-- each of the first k indices found its own number, and the places that none of them names are kept
pub record Settles (is claims out : List ℤ) (k : ℕ) : Type 0 where
  pub own : (j : ℕ) → j < k → get_or claims (place_of is j) (pos 0) ≡ pos j
  pub kept : IsKept is k claims out

-- if that holds of all indices, no two of them are equal
pub settled : {is claims out : List ℤ} {k : ℕ} → Settles is claims out k → length is ≤ k → has_twice is ≡ false
settled {is} {claims} s all = once_if is (λ j m before here same. grind (arith, same, s.own j, s.own m))

-- the next index finds what its place held, since no earlier one is equal to it
pub found : {is claims out : List ℤ} {k : ℕ} → Settles is claims out k → k < length is
    → HoldsClaims (length is) is claims → get_or out (place_of is k) (pos 0) ≡ get_or claims (place_of is k) (pos 0)
found {is} {claims} {out} {k} s here claimed =
    s.kept (place_of is k) (λ j before same. grind (arith, same, s.own j, claimed k here))

-- an index that finds another number than its own is equal to a later one
pub twice_found : {is claims out : List ℤ} {k : ℕ} → Settles is claims out k → k < length is
    → HoldsClaims (length is) is claims → (get_or out (place_of is k) (pos 0) ≡ pos k → ⊥) → has_twice is ≡ true
twice_found {is} {claims} {out} {k} s here claimed lost =
    let claim = claimed k here in
    twice_at is k claim.0 (grind (arith, found s here claimed, claim)) claim.2 claim.3
