-- A text has the reading that the grammar gives it.
use Rattle.std.proofs.Common.{arith, ◌≡◌, ℕ, List, [], ◌∷◌, Option, Some, None, Result, Ok, Err, inl, inr, refl, ap}
use Rattle.std.proofs.Common.{◌∙◌, sym}
use Rattle.std.proofs.lemmas.Bool.Decides.{nat_tests}
use Rattle.vcode_reader.specs.declared.fault.CodeFault.TheVariants.{Unfinished}
use Rattle.vcode_base.specs.declared.fault.TextFault.TheVariants.{Memory, At}
use Rattle.vcode_reader.specs.declared.place.Place.{Place}
use Rattle.vcode_reader.specs.declared.place.Place.TheVariants.{Outside}
use Rattle.vcode_reader.specs.First.{IsUnfinished, IsWanted, IsReading, IsAnswer, EveryTextIsRead, WholeTextsAreRead}
use Rattle.vcode_reader.specs.First.{OneProgram, run}
use Rattle.vcode_reader.specs.Parsing.{Parse, start, take}
use Rattle.vcode_reader.specs.Reading.{result_at_end, at_end, outcome, program_at, reading}
use Rattle.vcode_base.specs.TextAnswers.{Answers}
use Rattle.vcode_reader.specs.Refusals.{Fault, ReadFault}
use Rattle.vcode_reader.specs.Scan.{Word, Scan, add_word, beginning, end_word, lone_word, scan_byte, scan_all, scan_of}
use Rattle.vcode_reader.specs.Scan.{words, open_comment}
use Rattle.vcode_reader.specs.Trees.{Function, Program}
use Rattle.vcode_reader.proofs.Runs.{no_run, between, gram_run}
use Rattle.vcode_reader.proofs.Good.{run-last, run_stands, run_gram, faulty, stands_good}

-- ---- the words of a text, and what they lead to

word_at : List ℕ → ℕ → Word
word_at t l = record { text = t; line = l }

-- the reading of the words so far
of_words : Scan (List Word) → Scan Parse
of_words r = record { found = run start r.found; line = r.line; word = r.word; comment = r.comment }

end_word-of_words : (r : Scan (List Word)) → end_word take (of_words r) ≡ of_words (end_word add_word r)
unfolding end_word of_words word_at
end_word-of_words r = grind (arith, nat_tests, run-last)

scan_byte-of_words : (r : Scan (List Word)) (b : ℕ) →
    scan_byte take (of_words r) b ≡ of_words (scan_byte add_word r b)
unfolding scan_byte of_words end_word lone_word word_at
scan_byte-of_words r b = grind (arith, run-last)

scan_all-of_words : (bs : List ℕ) (r : Scan (List Word)) →
    scan_all take (of_words r) bs ≡ of_words (scan_all add_word r bs)
unfolding scan_all
scan_all-of_words [] r = refl
scan_all-of_words (b ∷ bs) r = grind (arith, scan_byte-of_words, scan_all-of_words bs (scan_byte add_word r b))

-- what has been read, as words
read_words : (first : ℕ) (bytes : List ℕ) →
    end_word take (scan_all take (beginning start first) bytes) ≡ of_words (scan_of first bytes)
unfolding of_words run
read_words first bytes = grind (arith, scan_all-of_words bytes (beginning [] first), end_word-of_words)

-- ---- at the end of a text

open_place : (place : Place) (ws : List Word) (line : ℕ) → (run start ws).fault ≡ None →
    (run start ws).place ≡ place → (place ≡ Outside → ⊥) →
    at_end place (run start ws) ≡ Err (Unfinished, line) → IsUnfinished ws None (Unfinished, line)
unfolding between
open_place place ws line h k other e = record {
  good = stands_good _ ws (run_stands ws h);
  not_whole = λ _ fs g. other (sym k ∙ ap (λ (q : Parse). q.place) (gram_run fs ws g));
  is_unfinished = refl;
  line = ap (λ x. at_end x (run start ws)) k ∙ e;
}

by_place : (place : Place) (ws : List Word) → (run start ws).fault ≡ None →
    (run start ws).place ≡ place → IsWanted (at_end place (run start ws)) ws None
unfolding between
by_place place ws h k = grind (arith, nat_tests, run_gram, open_place)

answered : (o : Option Fault) (comment : Option ℕ) (ws : List Word) → (run start ws).fault ≡ o →
    IsWanted (result_at_end o comment (run start ws)) ws comment
answered (Some f) comment ws h = inl (faulty ws [] f (grind (arith, no_run)) (grind (arith, no_run)))
answered None (Some l) ws h = inr (record {
  good = stands_good _ ws (run_stands ws h);
  not_whole = λ e fs g. cc;
  is_unfinished = refl;
  line = refl;
})
answered None None ws h = by_place (run start ws).place ws h refl

wanted : (first : ℕ) (bytes : List ℕ) →
    IsWanted (outcome (scan_all take (beginning start first) bytes)) (words first bytes) (open_comment first bytes)
unfolding outcome of_words
wanted first bytes = grind (arith, nat_tests, read_words, answered)

of_program : (first : ℕ) (bytes : List ℕ) (r : Result (List Function) Fault) →
    IsWanted r (words first bytes) (open_comment first bytes) → IsReading (program_at first r) first bytes
of_program first bytes r h = grind (arith, nat_tests)

-- ---- the laws

pub every_text_is_read : EveryTextIsRead
unfolding reading
every_text_is_read first bytes = grind (arith, nat_tests, of_program, wanted)

pub whole_texts_are_read : WholeTextsAreRead
unfolding reading outcome of_words between
whole_texts_are_read first bytes fs g h = grind (arith, nat_tests, read_words, gram_run, between)

pub one_program : OneProgram
unfolding between
one_program ws fs gs g h = ap (λ (q : Parse). q.functions) (sym (gram_run fs ws g) ∙ gram_run gs ws h)

-- the answer is the reading
pub is_answer : (r : Result Program ReadFault) (first : ℕ) (bytes : List ℕ) →
    Answers r (reading first bytes) → IsAnswer r first bytes
is_answer (Ok p) first bytes h = rw h at (every_text_is_read first bytes)
is_answer (Err Memory) first bytes h = tt
is_answer (Err (At refusal line)) first bytes h = rw h at (every_text_is_read first bytes)
