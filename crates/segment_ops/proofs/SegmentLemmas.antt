-- A walk over the segments of one or two descriptors.
use Rattle.std.proofs.Common.{◌≡◌, ℕ, ◌+◌, ◌-◌, ◌<◌, ◌≤◌, ℤ, pos, false, ◌||◌, List, [], ◌∷◌, ◌++◌, length}
use Rattle.std.proofs.Common.{take, drop, set, get_or, zip, replicate, refl, ap, ◌∙◌, arith, zero, suc, unsigned_abs}
use Rattle.std.proofs.Common.{append_assoc, length-take, length-drop}
use Rattle.std.specs.List.{flat_map}
use Rattle.std.proofs.Math.Seq.{take-set-lt, take-append-add}
use Rattle.std.proofs.lemmas.Grind.{common_steps}
use Rattle.std.proofs.lemmas.Int.{ints, to_z-of_z}
use Rattle.std.proofs.lemmas.List.{drop_more, drop-drop, drop-set-lt, take-append-le, append-nil}
use Rattle.std.proofs.lemmas.List.{drop-replicate, take-replicate}
use Rattle.std.proofs.lemmas.List.Sums.{sum_by-drop_more}
use Rattle.std.proofs.lemmas.Slice.{take-put_mid}
use borrow.Rule.Slice.PartMut.{put_mid}
use Rattle.vcode_base.specs.Elements.{is_outside}
use Rattle.vcode_base.specs.Segments.{sizes, total, segments, pieces_of, any_outside, scatter_of, permutation_of}
use Rattle.segment_ops.specs.Indices.{some_outside}

abbrev pub size_at : List ℤ → ℕ → ℕ
size_at s i = unsigned_abs (get_or s i (pos 0))

pub total_more : (s : List ℤ) (i : ℕ) → i < length s → total (drop i s) ≡ size_at s i + total (drop (i + 1) s)
total_more s i h = sum_by-drop_more unsigned_abs s i (pos 0) h

-- the segments from the one at i on, which lies from b to e: that one, and the rest
pub parts_more : (s xs : List ℤ) {i e : ℕ} (b : ℕ) → i < length s → e ≡ b + size_at s i
    → segments (drop i s) (drop b xs) ≡ take (e - b) (drop b xs) ∷ segments (drop (i + 1) s) (drop e xs)
parts_more s xs {i} {e} b here ends = grind (arith, common_steps)

-- the front of a list whose part from k on was written
pub front_put : (out ys : List ℤ) (k w n : ℕ) → k ≤ n → k ≤ length out → n - k ≤ length ys
    → take n (put_mid k w out ys) ≡ take k out ++ take (n - k) ys
front_put out ys k w n below inside room =
    let front : n ≡ length (take k out) + (n - k) = simp length-take (omega arith) in
    ap (λ m. take m (put_mid k w out ys)) front ∙ take-append-add (take k out) _ (n - k)
    ∙ ap (λ zs. take k out ++ zs) (take-append-le (n - k) ys _ room)

-- one step of a walk that writes for each segment what F makes of it: it wrote ys from b to e
pub flat_walk : (F : List ℤ → List ℤ) (s xs out ys : List ℤ) (i b e k : ℕ) → i < length s → e ≡ b + size_at s i
    → b + total (drop i s) ≡ length out → length ys ≡ e - b → ys ≡ F (take (e - b) (drop b xs))
    → take e (put_mid b k out ys) ++ flat_map F (segments (drop (i + 1) s) (drop e xs))
    ≡ take b out ++ flat_map F (segments (drop i s) (drop b xs))
flat_walk F s xs out ys i b e k here ends left long made =
    let part = parts_more s xs b here ends in
    let within = total_more s i here in
    grind (arith, part, append_assoc, take-put_mid)

-- one segment is all of a vector
pub distributed_one : (s xs : List ℤ) → length s ≡ 1 → length xs ≡ length s
    → flat_map (λ (n, x). replicate n x) (zip (sizes s) xs) ≡ replicate (total s) (get_or xs 0 (pos 0))
distributed_one [] xs one each = absurd (omega arith)
distributed_one (k ∷ []) [] one each = absurd (omega arith)
distributed_one (k ∷ []) (y ∷ []) one each = grind (arith, append-nil)
distributed_one (k ∷ []) (y ∷ z ∷ xs) one each = absurd (omega arith)
distributed_one (k ∷ j ∷ s) xs one each = absurd (omega arith)

pub place_within : (n : ℕ) (i : ℤ) → is_outside n i ≡ false → unsigned_abs i < n
place_within n i inside = grind (arith, ints)

-- the front of a list that was written at a place after b
pub set_within : (out : List ℤ) (b j e : ℕ) (y : ℤ) → b + j < e → e ≤ length out
    → take e (set out (b + j) y) ≡ take b out ++ set (take (e - b) (drop b out)) j y
set_within out zero j e y within room = grind (arith, take-set-lt)
set_within [] (suc b) j e y within room = absurd (omega arith)
set_within (x ∷ out) (suc b) j zero y within room = absurd (omega arith)
set_within (x ∷ out) (suc b) j (suc e) y within room =
    let later = set_within out b j e y (omega arith) (omega arith) in grind (arith, later)

pub ruleset walks = (common_steps, total_more, front_put, to_z-of_z)

-- a step of a walk that replaces an element of each segment
pub ruleset edits = (set_within, place_within, total_more, drop_more, drop-drop, drop-set-lt, append_assoc, to_z-of_z)

-- a part that was filled
pub ruleset spreads = (common_steps, take-replicate, to_z-of_z)

-- the indices from c on into the segments from the one at i on: those of the next segment into xs, and the later ones
pub outside_more : (s r xs is : List ℤ) {i e d : ℕ} (b c : ℕ) → i < length s → e ≡ b + size_at s i
    → e ≤ length xs → i < length r → d ≡ c + size_at r i
    → any_outside (sizes (drop i s)) (segments (drop i r) (drop c is))
    ≡ (some_outside (length (take (e - b) (drop b xs))) (take (d - c) (drop c is))
    || any_outside (sizes (drop (i + 1) s)) (segments (drop (i + 1) r) (drop d is)))
outside_more s r xs is {i} {e} {d} b c here ends room there target_ends =
    let part : length (take (e - b) (drop b xs)) ≡ size_at s i = simp (length-take, length-drop) (omega arith) in
    rw (part, parts_more r is c there target_ends, drop_more s i (pos 0) here) refl

front_zeros : (n : ℕ) (xs : List ℤ) → take n (replicate (length xs) (pos 0)) ≡ replicate (length (take n xs)) (pos 0)
front_zeros zero xs = refl
front_zeros (suc n) [] = refl
front_zeros (suc n) (x ∷ xs) = ap (λ ys. pos 0 ∷ ys) (front_zeros n xs)

back_zeros : (n : ℕ) (xs : List ℤ) → drop n (replicate (length xs) (pos 0)) ≡ replicate (length (drop n xs)) (pos 0)
back_zeros n xs = grind (arith, drop-replicate, length-drop)

-- to move the elements of each piece over zeros is to permute it
pub permuted_pieces : (ns : List ℕ) (xs is : List ℤ)
    → flat_map (λ (v, p). scatter_of v p.0 p.1)
    (zip (pieces_of ns xs) (zip (pieces_of ns is) (pieces_of ns (replicate (length xs) (pos 0)))))
    ≡ flat_map (λ (v, is). permutation_of v is) (zip (pieces_of ns xs) (pieces_of ns is))
permuted_pieces [] xs is = refl
permuted_pieces (n ∷ ns) xs is =
    rw (front_zeros n xs, back_zeros n xs, permuted_pieces ns (drop n xs) (drop n is))
