-- A text has one reading: what its lines say, or its first fault.
use Rattle.std.proofs.Common.{◌≡◌, ◌∙◌, ◌+◌, ℕ, refl, ap, sym, arith, add-zero, append_assoc, append-nil}
use Rattle.std.proofs.Common.{List, [], ◌∷◌, ◌++◌, length, Result, Ok, Err, length-append}
use Rattle.vcode_base.specs.declared.fault.TextFault.{TextFault}
use Rattle.vcode_base.specs.TextAnswers.{Answers}
use Rattle.signatures.specs.declared.fault.SignatureFault.{SignatureFault}
use Rattle.signatures.specs.First.{Adds, AddAll, IsReading, IsAnswer, EveryTextIsRead, OneReading}
use Rattle.signatures.specs.Lines.{lines}
use Rattle.signatures.specs.Reading.{after_line, from_line, lines_reading, reading}
use Rattle.signatures.specs.Signatures.{Signature}
use Rattle.signatures.proofs.Said.{LineReading, line_reads, adds_after, wrong_after}

-- ---- every text is read

add_more : (before : List (List ℕ)) (known mid new : List Signature) (line : List ℕ) → AddAll known before mid
    → Adds mid line new → AddAll known (before ++ line ∷ []) new
add_more [] known mid new line h a = (new, rw (← h) at a, refl)
add_more (l ∷ before) known mid new line h a = (h.0, h.1, add_more before h.0 mid new line h.2 a)

module _ (first : ℕ) (text : List ℕ) where
  -- good lines were read, and these follow them
  abbrev AreNext : List (List ℕ) → List (List ℕ) → List Signature → Type 0
  AreNext before ls known = (lines text ≡ before ++ ls) × AddAll [] before known

  -- what these lines give is the reading of the text
  abbrev EndsWell : List (List ℕ) → List (List ℕ) → List Signature → Type 0
  EndsWell before ls known = IsReading (lines_reading known (first + length before) ls) first text

  one_line : (r : Result (List Signature) SignatureFault) (before ls : List (List ℕ)) (line : List ℕ)
      (known : List Signature) → LineReading known line r → AreNext before (line ∷ ls) known
      → ((next : List Signature) → AreNext (before ++ line ∷ []) ls next → EndsWell (before ++ line ∷ []) ls next)
      → let number = first + length before in
      IsReading (from_line r number (λ next. lines_reading next (number + 1) ls)) first text
  one_line (Ok next) before ls line known h at rest =
      let number : first + length (before ++ line ∷ []) ≡ first + length before + 1 =
      simp length-append (omega arith) in
      let later : AreNext (before ++ line ∷ []) ls next =
      (at.0 ∙ sym (append_assoc before (line ∷ []) ls), add_more before [] known next line at.1 h) in
      rw number at (rest next later)
  one_line (Err fault) before ls line known h at rest =
      record {
        before = before;
        line = line;
        after = ls;
        lines_are = at.0;
        known = known;
        good = at.1;
        wrong = h;
        number = refl;
      }

  all_lines : (ls before : List (List ℕ)) (known : List Signature) → AreNext before ls known → EndsWell before ls known
  unfolding lines_reading
  all_lines [] before known at = rw (← append-nil before, ← at.0) at at.1
  all_lines (line ∷ ls) before known at =
      one_line (after_line known line) before ls line known (line_reads known line) at
      (all_lines ls (before ++ line ∷ []))

pub every_text_is_read : EveryTextIsRead
unfolding reading
every_text_is_read first text = rw add-zero at (all_lines first text (lines text) [] [] (refl, refl))

-- ---- there is no other reading

after_good : (before more : List (List ℕ)) (known now : List Signature) (number : ℕ) → AddAll known before now
    → lines_reading known number (before ++ more) ≡ lines_reading now (number + length before) more
unfolding lines_reading
after_good [] more known now number good = rw (good, add-zero)
after_good (l ∷ before) more known now number good =
    rw (adds_after known good.0 l good.1) (after_good before more good.0 now (number + 1) good.2
    ∙ ap (λ k. lines_reading now k more) (omega arith))

pub one_reading : OneReading
unfolding reading lines_reading
one_reading first text (Ok new) h =
    rw (append-nil (lines text)) at (after_good (lines text) [] [] new first h)
one_reading first text (Err fault) h =
    ap (lines_reading [] first) h.lines_are ∙ after_good h.before (h.line ∷ h.after) [] h.known first h.good
    ∙ rw (wrong_after fault.0 h.known h.line h.wrong, ← h.number) refl

pub is_answer : (r : Result (List Signature) (TextFault SignatureFault)) (first : ℕ) (text : List ℕ)
    → Answers r (reading first text) → IsAnswer r first text
is_answer r first text h = grind (arith, every_text_is_read first text)
