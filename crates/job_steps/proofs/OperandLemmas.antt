-- Operands: lists one after another, and those of a question.
use Rattle.std.proofs.lemmas.Bool.Decides.{Decides-and, Decides-int_eq, Decides-like}
use Rattle.std.proofs.Common.{rules, ◌≡◌, ℕ, ℤ, ◌+◌, ◌≤◌, List, [], ◌∷◌, length, length-take-le, map, take, drop, sum}
use Rattle.std.proofs.Common.{get_or, refl, ap, arith, zero, suc, Bool}
use Rattle.std.proofs.Math.Seq.{take-append_seam, drop-append_seam}
use Rattle.std.proofs.lemmas.List.{length-append, take-map, length-map}
use Rattle.std.proofs.lemmas.List.Sums.{sum_by-cons}
use Rattle.vcode_base.specs.Segments.{pieces_of}
use Rattle.job_steps.specs.Buffers.{OperandLists, in_a_row, length_of_all, lists_in}
use Rattle.std.specs.Borrow.{Bor}
use Rattle.std.specs.Bool.{Decides}
use Rattle.std.specs.Cmp.Lexicographic.{pointwise}
use Rattle.std.specs.Ordering.{int_eq}
use Rattle.std.proofs.lemmas.Slice.Eq.{slice_eq-Decides}
use Rattle.vcode_base.specs.declared.op.Op.{Op}
use Rattle.vcode_base.specs.Kinds.{HaveKinds, source_kinds}
use Rattle.vcode_base.specs.Operands.{contents}
use Rattle.job_steps.specs.Tickets.{CanAnswer, question_by}

pub sum_of_five : (ls : List ℕ) → length ls ≡ 5 → sum ls ≡ get_or ls 0 0 + get_or ls 1 0 + get_or ls 2 0 + get_or ls 3 0
    + get_or ls 4 0
sum_of_five (a ∷ b ∷ c ∷ d ∷ e ∷ []) h = omega arith
sum_of_five ls h = absurd (omega arith)

five_pieces : (ls : List ℕ) (xs : List ℤ) → length ls ≡ 5 → pieces_of ls xs ≡ take (get_or ls 0 0) xs ∷ take
    (get_or ls 1 0) (drop (get_or ls 0 0) xs) ∷ take (get_or ls 2 0) (drop (get_or ls 1 0) (drop (get_or ls 0 0) xs)) ∷
    take (get_or ls 3 0) (drop (get_or ls 2 0) (drop (get_or ls 1 0) (drop (get_or ls 0 0) xs))) ∷ take (get_or ls 4 0)
    (drop (get_or ls 3 0) (drop (get_or ls 2 0) (drop (get_or ls 1 0) (drop (get_or ls 0 0) xs)))) ∷ []
five_pieces (a ∷ b ∷ c ∷ d ∷ e ∷ []) xs h = refl
five_pieces ls xs h = absurd (omega arith)

-- five parts split off one after another
pub five_parts : (ls : List ℕ) (xs p0 r0 p1 r1 p2 r2 p3 r3 p4 : List ℤ) → length ls ≡ 5 → p0 ≡ take (get_or ls 0 0) xs →
    r0 ≡ drop (get_or ls 0 0) xs → p1 ≡ take (get_or ls 1 0) r0 → r1 ≡ drop (get_or ls 1 0) r0 →
    p2 ≡ take (get_or ls 2 0) r1 → r2 ≡ drop (get_or ls 2 0) r1 → p3 ≡ take (get_or ls 3 0) r2 →
    r3 ≡ drop (get_or ls 3 0) r2 → p4 ≡ take (get_or ls 4 0) r3 → p0 ∷ p1 ∷ p2 ∷ p3 ∷ p4 ∷ [] ≡ pieces_of ls xs
five_parts ls xs p0 r0 p1 r1 p2 r2 p3 r3 p4 h a0 b0 a1 b1 a2 b2 a3 b3 a4 = cc (five_pieces ls xs h)

pub take_as_many : {T : Type 0} (n : ℕ) (xs : List T) → take (length (take n xs)) xs ≡ take n xs
take_as_many (suc n) (x ∷ xs) = ap (λ ys. x ∷ ys) (take_as_many n xs)
take_as_many n xs = refl

-- what `lists` needs
pub ruleset of_lists = (sum_of_five, five_parts, take_as_many)

length-pieces_of : (ls : List ℕ) (xs : List ℤ) → length (pieces_of ls xs) ≡ length ls
length-pieces_of [] xs = refl
length-pieces_of (l ∷ ls) xs = omega (arith, length-pieces_of ls (drop l xs))

pub how_many : (count : ℕ) (ls : List ℕ) (xs : List ℤ) → count ≤ length ls →
    length (take count (pieces_of ls xs)) ≡ count
how_many count ls xs h = length-take-le count (pieces_of ls xs) (omega (arith, length-pieces_of ls xs))

take-pieces_of : (n : ℕ) (ls : List ℕ) (xs : List ℤ) → take n (pieces_of ls xs) ≡ pieces_of (take n ls) xs
take-pieces_of zero ls xs = grind arith
take-pieces_of (suc n) ls xs = grind (arith, (take-pieces_of n))

abbrev pub loading : ℕ → List (List ℤ) → OperandLists
loading room lists = record { room = room; lists = lists }

-- what is loaded, if the buffer holds the lists of the first of these lengths
pub loaded : (room words : ℕ) (lists : List (List ℤ)) (count : ℕ) (ls ms : List ℕ) (xs : List ℤ) → room ≡ words →
    take count ls ≡ ms → pieces_of ms xs ≡ lists → loading room (lists_in count ls xs) ≡ loading words lists
loaded room words lists count ls ms xs same front held = cc (take-pieces_of count ls xs)

-- lists in a row are the pieces of their lengths
pub pieces_in_a_row : (lists : List (List ℤ)) → pieces_of (map length lists) (in_a_row lists) ≡ lists
pieces_in_a_row [] = refl
pieces_in_a_row (list ∷ lists) = grind (arith, take-append_seam, drop-append_seam, (pieces_in_a_row lists))

pub length-in_a_row : (lists : List (List ℤ)) → length (in_a_row lists) ≡ length_of_all lists
length-in_a_row [] = refl
length-in_a_row (list ∷ lists) = search (rules, length-append, sum_by-cons, (length-in_a_row lists))

pub few_lent : (op : Op) (refs : List (Bor (List ℤ))) → HaveKinds (source_kinds op) (contents refs) → length refs ≤ 5
few_lent op refs h = grind (arith, length-map)

-- the front of what is lent
pub contents_in_front : (count : ℕ) (refs : List (Bor (List ℤ))) (xs : List (List ℤ)) → count ≡ length xs →
    take (length xs) (contents refs) ≡ xs → contents (take count refs) ≡ xs
contents_in_front count refs xs same front = grind (arith, take-map)

-- what can be answered in some words can be in more, by the operands at the front of what is lent
pub can_answer_in_front : (op : Op) (words room count : ℕ) (refs : List (Bor (List ℤ))) (xs : List (List ℤ)) →
    words ≤ room → count ≡ length xs → take (length xs) (contents refs) ≡ xs → CanAnswer words (question_by op xs) →
    CanAnswer room (question_by op (contents (take count refs)))
can_answer_in_front op words room count refs xs more same front h = grind (arith, contents_in_front)

-- lists that are lent are equal if their elements are
same_contents : (xs ys : List (Bor (List ℤ))) → Decides (pointwise (λ x y. pointwise int_eq x.now y.now) xs ys)
    (contents xs ≡ contents ys)
same_contents [] [] = (λ h. refl, λ h. refl)
same_contents [] (y ∷ ys) = (λ h. cc, λ h. cc)
same_contents (x ∷ xs) [] = (λ h. cc, λ h. cc)
same_contents (x ∷ xs) (y ∷ ys) =
    Decides-like _ (λ (h, k). cc) (λ h. (cc, cc))
    (Decides-and _ _ (slice_eq-Decides Decides-int_eq x.now y.now _ refl) (same_contents xs ys))

-- whether the lists that these lend are those
pub same_lists : (r : Bool) (refs others : List (Bor (List ℤ))) (lists : List (List ℤ)) → contents refs ≡ lists →
    r ≡ pointwise (λ x y. pointwise int_eq x.now y.now) refs others → Decides r (lists ≡ contents others)
same_lists r refs others lists are is = grind (arith, same_contents)
