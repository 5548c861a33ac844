-- The results of an instruction have the needed lengths.
use Rattle.std.proofs.Common.{◌≡◌, ℕ, ℤ, pos, cond, List, [], ◌∷◌, length, take, drop, map, zip, replicate}
use Rattle.std.proofs.Common.{slice_set, refl, ◌∙◌, arith, unsigned_abs}
use Rattle.std.proofs.Common.{length-append, length-take, length-drop, length-set}
use Rattle.std.specs.List.{flat_map, sum_by, count_by, filter}
use Rattle.std.proofs.lemmas.List.Concat.{length-flat_map}
use Rattle.std.proofs.lemmas.List.Sums.{sum_by-cons, length-filter}
use Rattle.std.proofs.lemmas.List.{length-map, length-replicate}
use Rattle.std.proofs.lemmas.List.FromFn.{length-map-range_with_len, length-enumerate_from}
use Rattle.std.proofs.lemmas.Slice.Zip.{length-zip}
use Rattle.vcode_base.specs.Elements.{is_set, fold_of}
use Rattle.vcode_base.specs.Segments.{sizes, total, segments, folds_before, progression, element}
use Rattle.vcode_base.specs.Segments.{scatter_of, permutation_of}
use Rattle.vcode_base.specs.Meaning.{flagged_elements}
use Rattle.vcode_base.specs.declared.op.Fold.{Fold}

-- ---- sums over pairs and segments

-- the sum over the second of each pair
second_of_zip : {X Y : Type 0} (m : Y → ℕ) (xs : List X) (ys : List Y) → length xs ≡ length ys
    → sum_by (λ (p : X × Y). m p.1) (zip xs ys) ≡ sum_by m ys
second_of_zip m [] [] e = refl
second_of_zip m [] (y ∷ ys) e = absurd (omega arith)
second_of_zip m (x ∷ xs) [] e = absurd (omega arith)
second_of_zip {X} {Y} m (x ∷ xs) (y ∷ ys) e =
    grind (arith, sum_by-cons (λ (p : X × Y). m p.1) (x, y) (zip xs ys), sum_by-cons m y ys, second_of_zip m xs ys)

-- what is made of pairs piece by piece, if the first or the second of a pair says how long its piece is
by_first : {X Y : Type 0} (F : X × Y → List ℤ) (size : X → ℕ)
    → ((x : X) (y : Y) → length (F (x, y)) ≡ size x) → (xs : List X) (ys : List Y) → length xs ≡ length ys
    → length (flat_map F (zip xs ys)) ≡ sum_by size xs
by_first F size each [] ys e = refl
by_first F size each (x ∷ xs) [] e = absurd (omega arith)
by_first F size each (x ∷ xs) (y ∷ ys) e =
    grind (arith, length-append, sum_by-cons, each x y, by_first F size each xs ys)

by_second : {X Y : Type 0} (F : X × Y → List ℤ) (size : Y → ℕ)
    → ((x : X) (y : Y) → length (F (x, y)) ≡ size y) → (xs : List X) (ys : List Y) → length xs ≡ length ys
    → length (flat_map F (zip xs ys)) ≡ sum_by size ys
by_second F size each [] [] e = refl
by_second F size each [] (y ∷ ys) e = absurd (omega arith)
by_second F size each (x ∷ xs) [] e = absurd (omega arith)
by_second F size each (x ∷ xs) (y ∷ ys) e =
    grind (arith, length-append, sum_by-cons, each x y, by_second F size each xs ys)

-- a vector is as long as its segments
segments_long : (s xs : List ℤ) → length xs ≡ total s → sum_by length (segments s xs) ≡ length xs
segments_long [] xs e = grind arith
segments_long (n ∷ s) xs e =
    let m = unsigned_abs n in
    let cons = sum_by-cons length (take m xs) (segments s (drop m xs)) in
    grind (arith, cons, sum_by-cons unsigned_abs n s, length-take, length-drop, segments_long s (drop m xs))

pub segments_many : (s xs : List ℤ) → length (segments s xs) ≡ length s
segments_many [] xs = refl
segments_many (n ∷ s) xs = grind (arith, segments_many s (drop (unsigned_abs n) xs))

sizes_total : (s : List ℤ) → sum_by (λ (n : ℕ). n) (sizes s) ≡ total s
sizes_total [] = refl
sizes_total (n ∷ s) =
    grind (arith, sum_by-cons (λ (n : ℕ). n) (unsigned_abs n) (sizes s), sum_by-cons unsigned_abs n s, sizes_total s)

-- ---- the results

pub scan_long : (f : Fold) (s xs : List ℤ) → length xs ≡ total s
    → length (flat_map (folds_before f) (segments s xs)) ≡ length xs
scan_long f s xs e =
    let each : (ys : List ℤ) → length (folds_before f ys) ≡ length ys =
    λ ys. length-map-range_with_len (λ k. fold_of f (take k ys)) 0 (length ys) in
    length-flat_map (folds_before f) (segments s xs)
    ∙ (λ i. sum_by (λ ys. each ys i) (segments s xs)) ∙ segments_long s xs e

pub distributed_long : (s xs : List ℤ) → length xs ≡ length s
    → length (flat_map (λ (n, x). replicate n x) (zip (sizes s) xs)) ≡ total s
distributed_long s xs e =
    by_first _ (λ n. n) (λ n x. length-replicate n x) (sizes s) xs (grind (arith, length-map)) ∙ sizes_total s

pub progressions_long : (s xs ds : List ℤ) → length xs ≡ length s → length ds ≡ length s
    → length (flat_map (λ (n, p). progression n p.0 p.1) (zip (sizes s) (zip xs ds))) ≡ total s
progressions_long s xs ds e f =
    by_first _ (λ n. n) (λ n p. length-map-range_with_len _ 0 n) (sizes s) (zip xs ds)
    (grind (arith, length-map, length-zip)) ∙ sizes_total s

moved_long : (xs is there : List ℤ) → length (scatter_of xs is there) ≡ length there
moved_long xs is there = grind (arith, length-map, length-enumerate_from)

pub permuted_long : (s xs is : List ℤ) → length xs ≡ total s
    → length (flat_map (λ (v, is). permutation_of v is) (zip (segments s xs) (segments s is))) ≡ length xs
permuted_long s xs is e =
    by_first _ length (λ v is. moved_long v is _ ∙ length-replicate (length v) (pos 0)) (segments s xs) (segments s is)
    (grind (arith, segments_many)) ∙ segments_long s xs e

pub back_permuted_long : (s r xs is : List ℤ) → length s ≡ length r → length is ≡ total r
    → length (flat_map (λ (v, is). map (element v) is) (zip (segments s xs) (segments r is))) ≡ total r
back_permuted_long s r xs is m e =
    by_second _ length (λ v is. length-map is (element v)) (segments s xs) (segments r is)
    (grind (arith, segments_many)) ∙ segments_long r is e ∙ e

pub default_permuted_long : (s r xs is ds : List ℤ) → length s ≡ length r → length ds ≡ total r
    → length (flat_map (λ (v, p). scatter_of v p.0 p.1) (zip (segments s xs) (zip (segments s is) (segments r ds))))
    ≡ total r
default_permuted_long s r xs is ds m e =
    by_second _ (λ (q : List ℤ × List ℤ). length q.1) (λ v q. moved_long v q.0 q.1) (segments s xs) _
    (grind (arith, segments_many, length-zip))
    ∙ second_of_zip length (segments s is) (segments r ds) (grind (arith, segments_many)) ∙ segments_long r ds e ∙ e

pub replaced_long : (s xs is ys : List ℤ) → length xs ≡ total s → length is ≡ length s → length ys ≡ length s
    → length (flat_map (λ (v, p). slice_set v (unsigned_abs p.0) p.1) (zip (segments s xs) (zip is ys))) ≡ length xs
replaced_long s xs is ys e f g =
    by_first _ length (λ v p. length-set v (unsigned_abs p.0) p.1) (segments s xs) (zip is ys)
    (grind (arith, segments_many, length-zip)) ∙ segments_long s xs e

pub packed_long : (xs bs : List ℤ) → length xs ≡ length bs → length (flagged_elements xs bs) ≡ count_by is_set bs
packed_long xs bs e =
    length-map (filter (λ (p : ℤ × ℤ). is_set p.1) (zip xs bs)) (λ (p : ℤ × ℤ). p.0)
    ∙ length-filter (λ (p : ℤ × ℤ). is_set p.1) (zip xs bs)
    ∙ second_of_zip (λ b. cond (is_set b) 1 0) xs bs e
