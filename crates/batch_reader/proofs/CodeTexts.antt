-- Texts of lines of code.
use Rattle.std.proofs.lemmas.List.{take-take, append-nil, get_or-drop, take-append-drop}
use Rattle.std.proofs.Common.{◌≡◌, ℕ, zero, suc, ◌+◌, ◌-◌, ◌<◌, ◌≤◌, ◌==◌, true, false, List, [], ◌∷◌, ◌++◌, length}
use Rattle.std.proofs.Common.{get_or, take, drop, refl, sym, ap, ◌∙◌, arith, rules, append_assoc, length-append, inl}
use Rattle.std.proofs.Common.{inr, subst}
use Rattle.std.proofs.lemmas.Bool.{cases_Bool, false_from_ne_true}
use Rattle.std.proofs.lemmas.Bool.Decides.{nat_tests}
use Rattle.std.specs.Prelude.{if◌then◌else◌, IfSome, Option}
use denote.Ref.{Bor}
use Rattle.vcode_base.specs.Lines.{line_feeds}
use Rattle.batch_reader.specs.Feeds.{HoldsNoLineFeed, IsWholeLine}
use Rattle.batch_reader.specs.Runs.{AreCodeLines, AreWholeLines, IsAfterCode, IsCodeLine, IsCodeText, IsOfEnd}
use Rattle.batch_reader.proofs.HeadingLemmas.{EndLine, EndsWord, HoldsNoD, no_d_in_front, no_end_by, no_end_without_d}
use Rattle.batch_reader.proofs.LineLemmas.{feeds_append, feeds_of_whole, no_feed_append, whole_with}
use Rattle.std.proofs.Math.Seq.{take-append_seam}

-- ---- how many lines

pub no_line : AreCodeLines 0 []
unfolding AreCodeLines
no_line = search rules

pub line_more : (n m : ℕ) (front line : List ℕ) → m ≡ n + 1 → AreCodeLines n front → IsCodeLine line
    → AreCodeLines m (front ++ line)
unfolding AreCodeLines
line_more n m front line e h l = search rules

pub some_in_line : (line : List ℕ) → IsWholeLine line → 1 ≤ length line
some_in_line line whole = grind (arith, length-append)

pub few_lines : (n : ℕ) (text : List ℕ) → AreCodeLines n text → n ≤ length text
unfolding AreCodeLines
few_lines zero text h = omega arith
few_lines (suc n) text h = grind (arith, length-append, few_lines n h.0 h.3, some_in_line)

-- the front of two texts
pub front_taken : (xs ys : List ℕ) (n : ℕ) → length xs ≡ n → take n (xs ++ ys) ≡ xs
front_taken xs ys n e = rw (← e) (take-append_seam xs ys)

-- ---- one after another

pub code_more : (front line : List ℕ) → IsCodeText front → IsCodeLine line → IsCodeText (front ++ line)
code_more front line h l = grind (arith, line_more, feeds_append, feeds_of_whole)

pub code_append : (n : ℕ) (xs ys : List ℕ) → IsCodeText xs → AreCodeLines n ys → IsCodeText (xs ++ ys)
unfolding AreCodeLines
code_append zero xs ys h k = grind (arith, append-nil)
code_append (suc n) xs ys h k =
    rw (k.2, ← append_assoc xs k.0 k.1) (code_more (xs ++ k.0) k.1 (code_append n xs k.0 h k.3) k.4)

-- ---- lines without a D

no_d_append : (xs ys : List ℕ) → HoldsNoD xs → HoldsNoD ys → HoldsNoD (xs ++ ys)
no_d_append [] ys h k = k
no_d_append (x ∷ xs) ys h k = (h.0, no_d_append xs ys h.1 k)

line_without_d : (held : List ℕ) (b : ℕ) → HoldsNoLineFeed held → HoldsNoD held → (b == 10) ≡ true → (b == 68) ≡ false
    → IsCodeText (held ++ b ∷ [])
line_without_d held b none lacks feed other =
    code_more [] (held ++ b ∷ []) no_line record {
      whole = (held, none, grind (arith, nat_tests));
      code = no_end_without_d (held ++ b ∷ []) (no_d_append held (b ∷ []) lacks (other, tt));
    }

-- lines without a D, and the rest of a line that they don't end: `pre` comes before them, and its last line is `held`
lines_before : (pre held text last : List ℕ) → HoldsNoLineFeed held → HoldsNoD held → HoldsNoD text
    → ((front left : List ℕ) → (pre ++ held) ++ text ≡ front ++ left → HoldsNoLineFeed left → HoldsNoD left
    → IsCodeText (left ++ last))
    → IsCodeText (held ++ (text ++ last))
lines_before pre held [] last none lacks h ends = ends pre held (append-nil (pre ++ held)) none lacks
lines_before pre held (b ∷ bs) last none lacks h ends =
    rw (← append_assoc held (b ∷ []) (bs ++ last)) (elim (cases_Bool (b == 10)) [
      | inl e ↦ code_append _ (held ++ b ∷ []) (bs ++ last) (line_without_d held b none lacks e h.0)
          (lines_before (pre ++ (held ++ b ∷ [])) [] bs last tt tt h.1
          (λ front left is. ends front left (grind (arith, append_assoc, append-nil))))
      | inr e ↦ lines_before pre (held ++ b ∷ []) bs last (no_feed_append held (b ∷ []) none (e, tt))
          (no_d_append held (b ∷ []) lacks (h.0, tt)) h.1
          (λ front left is. ends front left (grind (arith, append_assoc)))
    ])

whole_is : (x : ℕ) (xs : List ℕ) → AreWholeLines (x ∷ xs) → (front : List ℕ) × (x ∷ xs ≡ front ++ 10 ∷ [])
whole_is x [] h = ([], grind (arith, nat_tests))
whole_is x (y ∷ ys) h = let w = whole_is y ys h in (x ∷ w.0, ap (λ t. x ∷ t) w.1)

pub code_without_d : (text : List ℕ) → AreWholeLines text → HoldsNoD text → IsCodeText text
code_without_d [] whole h = no_line
code_without_d (b ∷ bs) whole h =
    let w = whole_is b bs whole in
    subst (λ (t : List ℕ). IsCodeText t) (sym w.1) (lines_before [] [] w.0 (10 ∷ []) tt tt
    (no_d_in_front w.0 (10 ∷ []) (subst HoldsNoD w.1 h))
    (λ front left is none lacks. line_without_d left 10 none lacks refl refl))

-- ---- lines with a D that isn't END's

-- the first D of a text
first_d : (xs ys front rest : List ℕ) → HoldsNoD xs → HoldsNoD front → xs ++ 68 ∷ ys ≡ front ++ 68 ∷ rest
    → (xs ≡ front) × (ys ≡ rest)
first_d [] ys [] rest h k e = (refl, cc)
first_d (x ∷ xs) ys (y ∷ front) rest h k e = let same = first_d xs ys front rest h.1 k.1 (cc) in (cc, same.1)
first_d _ ys _ rest h k e = absurd (grind (arith, nat_tests))

of_end : (lines left t more : List ℕ) → HoldsNoD left → IsWholeLine (68 ∷ t) → EndLine (left ++ 68 ∷ t)
    → IsOfEnd (lines ++ left) (68 ∷ t ++ more)
of_end lines left [] more lacks ([], none, is) e = absurd (cc)
of_end lines left [] more lacks (x ∷ [], none, is) e = absurd (cc)
of_end lines left [] more lacks (x ∷ y ∷ ys, none, is) e = absurd (cc)
of_end lines left (b ∷ bs) more lacks whole e =
    let front = no_d_append e.front (69 ∷ 78 ∷ []) e.lacks (refl, (refl, tt)) in
    let same = first_d left (b ∷ bs) (e.front ++ 69 ∷ 78 ∷ []) e.rest lacks front
    (grind (arith, append_assoc, e.parts)) in
    record {
      front = lines ++ e.front;
      next = b;
      rest = bs ++ more;
      begins = grind (arith, append_assoc, same);
      goes_on = refl;
      ends = subst EndsWord (sym same.1) e.ends;
    }

-- the rest of the line that holds the first D of a text
pub code_behind_d : (before line more : List ℕ) → HoldsNoD before → IsWholeLine line → get_or (line ++ more) 0 0 ≡ 68
    → (IsOfEnd before (line ++ more) → ⊥) → IsCodeText (before ++ line)
code_behind_d before [] more h whole d other = absurd (omega (arith, some_in_line [] whole))
code_behind_d before (x ∷ t) more h whole d other =
    lines_before [] [] before (x ∷ t) tt tt h
    (λ front left is none lacks. code_more [] (left ++ x ∷ t) no_line record {
      whole = whole_with left (x ∷ t) none whole;
      code = no_end_by (left ++ x ∷ t) (λ e. other (rw (is, d) (of_end front left t more lacks (rw d at whole)
          (rw d at e))));
    })

-- ---- places

-- the front of a text that has no D before a place
pub no_d_before : (front rest : List ℕ) (place : ℕ) → length front ≤ place
    → ((k : ℕ) → 0 ≤ k → k < place → get_or (front ++ rest) k 0 == 68 ≡ true → ⊥) → HoldsNoD front
no_d_before [] rest place within none = tt
no_d_before (x ∷ xs) rest place within none = (
  false_from_ne_true (x == 68) (none 0 (omega arith) (omega arith)),
  no_d_before xs rest (place - 1) (omega arith) (λ k low less is. none (suc k) (omega arith) (omega arith) is),
)

-- lines before a place before which there is no D
pub code_before : (text front rest : List ℕ) (place : ℕ) → text ≡ front ++ rest → length front ≤ place
    → AreWholeLines front
    → ((k : ℕ) → 0 ≤ k → k < place → get_or text k 0 == 68 ≡ true → ⊥) → IsCodeText front
code_before text front rest place is within whole none =
    code_without_d front whole (no_d_before front rest place within (rw is at none))

-- the lines before an open one, the last of which come before a place before which there is no D
pub code_up_to : (text front rest lines left : List ℕ) (place : ℕ) → text ≡ front ++ rest → IsCodeText front
    → rest ≡ lines ++ left → AreWholeLines lines → length lines ≤ place
    → ((k : ℕ) → 0 ≤ k → k < place → get_or rest k 0 == 68 ≡ true → ⊥)
    → IsCodeText (take (length text - length left) text)
code_up_to text front rest lines left place is h parts whole within none =
    let k = code_before rest lines left place parts within whole none in
    grind (arith, append_assoc, front_taken, length-append, code_append)

-- the rest after one line
pub after_line : (text line rest : List ℕ) → IsCodeLine line → text ≡ line ++ rest → IsAfterCode text rest
after_line text line rest h parts =
    record { lines = line; code = code_more [] line no_line h; some = some_in_line line h.whole; parts = parts }

-- the rest after lines and what comes after these
pub after_lines : (text lines from rest : List ℕ) → text ≡ lines ++ from → IsCodeText lines → IsAfterCode from rest
    → IsAfterCode text rest
after_lines text lines from rest parts h after = grind (arith, code_append, length-append, append_assoc)

pub some_after_lines : (text lines from : List ℕ) (r : Option (Bor (List ℕ))) → text ≡ lines ++ from → IsCodeText lines
    → IfSome r (λ rest. IsAfterCode from rest.now) → IfSome r (λ rest. IsAfterCode text rest.now)
some_after_lines text lines from r parts h after = grind (arith, after_lines)

-- the rest after the line that holds the first D of a text, which isn't END's
pub after_d : (text before from line rest : List ℕ) (place : ℕ) → before ≡ take place text → from ≡ drop place text
    → length before ≡ place → ((k : ℕ) → 0 ≤ k → k < place → get_or text k 0 == 68 ≡ true → ⊥)
    → get_or text place 0 == 68 ≡ true → IsWholeLine line → from ≡ line ++ rest → (IsOfEnd before from → ⊥)
    → IsAfterCode text rest
after_d text before from line rest place front back len none found whole parts other =
    let joined : text ≡ before ++ from = rw (front, back) (sym (take-append-drop place text)) in
    let d : get_or (line ++ rest) 0 0 ≡ 68 = grind (arith, nat_tests, get_or-drop) in
    let lacks = no_d_before before from place (omega (arith, len)) (rw joined at none) in
    record {
      lines = before ++ line;
      code = code_behind_d before line rest lacks whole d (rw parts at other);
      some = grind (arith, some_in_line, length-append);
      parts = grind (arith, append_assoc);
    }

pub whole_lines_at : (xs : List ℕ) (i : ℕ) → i < length xs → get_or xs i 0 == 10 ≡ true
    → AreWholeLines (take (i + 1) xs)
whole_lines_at [] i less is = absurd (omega arith)
whole_lines_at (x ∷ []) i less is = grind (arith, nat_tests)
whole_lines_at (x ∷ y ∷ ys) i less is = grind (arith, nat_tests, whole_lines_at (y ∷ ys) (i - 1))

-- ---- how many LFs

pub feeds_taken : (i : ℕ) (xs : List ℕ) → i < length xs
    → line_feeds (take (i + 1) xs) ≡ line_feeds (take i xs) + (if get_or xs i 0 == 10 then 1 else 0)
feeds_taken i [] less = absurd (omega arith)
feeds_taken i (x ∷ xs) less = grind (arith, nat_tests, feeds_taken (i - 1) xs)

pub feeds_of_parts : (n : ℕ) (xs : List ℕ) → line_feeds xs ≡ line_feeds (take n xs) + line_feeds (drop n xs)
feeds_of_parts n xs = ap line_feeds (sym (take-append-drop n xs)) ∙ feeds_append (take n xs) (drop n xs)

pub few_feeds : (xs : List ℕ) → line_feeds xs ≤ length xs
few_feeds [] = omega arith
few_feeds (x ∷ xs) = grind (arith, nat_tests, few_feeds xs)

pub few_feeds_taken : (n : ℕ) (xs : List ℕ) → line_feeds (take n xs) ≤ length xs
few_feeds_taken n xs = omega (arith, feeds_of_parts, few_feeds)

pub ruleset of_code_len = (code_append, no_line, append_assoc, length-append)

pub ruleset of_run = (take-take)

pub ruleset of_front = (take-take, whole_lines_at)
