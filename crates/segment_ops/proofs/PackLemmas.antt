-- A vector that is packed part by part.
use Rattle.std.proofs.Common.{◌≡◌, ℕ, ◌+◌, ℤ, List, [], ◌∷◌, ◌++◌, length, take, drop, refl}
use Rattle.std.proofs.Common.{if◌then◌else◌, arith, count_by, zero, suc, get_or, pos, ◌<◌, ◌≤◌, ◌-◌, length-drop}
use Rattle.std.proofs.lemmas.List.{drop-drop}
use Rattle.std.proofs.lemmas.List.Sums.{sum_by-cons, sum_by-drop_more, sum_by-take-drop}
use Rattle.vcode_base.specs.Elements.{is_set}
use Rattle.vcode_base.specs.Meaning.{flagged_elements}
use Rattle.segment_ops.proofs.SegmentLemmas.{walks}

pub none_packed : (xs bs : List ℤ) → count_by is_set bs ≡ 0 → flagged_elements xs bs ≡ []
none_packed [] bs none = refl
none_packed (x ∷ xs) [] none = refl
none_packed (x ∷ xs) (b ∷ bs) none =
    let later = none_packed xs bs in
    let count = sum_by-cons (λ b. if is_set b then 1 else 0) b bs in grind (arith, later, count)

packed_split : (xs bs : List ℤ) (n : ℕ) → length bs ≡ length xs
    → flagged_elements (take n xs) (take n bs) ++ flagged_elements (drop n xs) (drop n bs) ≡ flagged_elements xs bs
packed_split xs bs zero same = refl
packed_split [] [] (suc n) same = refl
packed_split [] (b ∷ bs) (suc n) same = absurd (omega arith)
packed_split (x ∷ xs) [] (suc n) same = absurd (omega arith)
packed_split (x ∷ xs) (b ∷ bs) (suc n) same = let later = packed_split xs bs n (omega arith) in grind (arith, later)

-- the elements from b to e, and the later ones
pub packed_part : (xs bs : List ℤ) (b e : ℕ) → length bs ≡ length xs → b ≤ e
    → flagged_elements (take (e - b) (drop b xs)) (take (e - b) (drop b bs))
    ++ flagged_elements (drop e xs) (drop e bs) ≡ flagged_elements (drop b xs) (drop b bs)
packed_part xs bs b e same within =
    let split = packed_split (drop b xs) (drop b bs) (e - b) (simp length-drop (omega arith)) in
    grind (arith, split, drop-drop)

pub count_part : (bs : List ℤ) (b e : ℕ) → b ≤ e
    → count_by is_set (take (e - b) (drop b bs)) + count_by is_set (drop e bs) ≡ count_by is_set (drop b bs)
count_part bs b e within =
    let ends : b + (e - b) ≡ e = omega arith in
    rw (drop-drop (e - b) b bs, ends) at (sum_by-take-drop (λ b. if is_set b then 1 else 0) (drop b bs) (e - b))

pub count_more : (bs : List ℤ) (k : ℕ) → k < length bs
    → count_by is_set (drop k bs) ≡ (if is_set (get_or bs k (pos 0)) then 1 else 0) + count_by is_set (drop (k + 1) bs)
count_more bs k h = sum_by-drop_more (λ b. if is_set b then 1 else 0) bs k (pos 0) h

pub ruleset packs = (walks, none_packed, count_more)
