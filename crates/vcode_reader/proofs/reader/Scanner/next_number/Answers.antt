-- A number and what is after it: two goals need that the number is passed over.
use Rattle.std.proofs.Common.{◌≡◌, ◌∙◌, ◌==◌, ℕ, ℤ, List, None, Some, true, drop, length, arith, rules, subst, sym}
use Rattle.std.proofs.Common.{to_z, of_z, to_z-of_z, w64}
use Rattle.std.specs.Prelude.{FitsSigned}
use Rattle.vcode_reader.specs.Ahead.{HasNumber}
use Rattle.vcode_reader.specs.Numbers.{number_of}
use Rattle.vcode_reader.specs.Parsing.{Parse, take}
use Rattle.vcode_reader.specs.Scan.{Scan, scan_all}
use Rattle.vcode_reader.proofs.Pieces.{same_room, no_bytes}
use Rattle.vcode_reader.proofs.Numerals.{number_passed}
use Rattle.vcode_reader.proofs.reader.Scanner.next_number.Goals as goal

passed : {s now : Scan Parse} {n : ℤ} {len open_len : ℕ} {rest : List ℕ} {next : Parse} (text : List ℕ) → s ≡ now →
    now.comment ≡ None → (open_len == 0) ≡ true → length s.word ≡ open_len → HasNumber text n len →
    rest ≡ drop len text → FitsSigned w64 n →
    ((w : List ℕ) → number_of w ≡ Some (to_z w64 (of_z w64 n)) → next ≡ take w s.line s.found) →
    scan_all take s text ≡ scan_all take (record s { found = next }) rest
passed {s} {n = n} {next = next} text view none empty counted found behind fits taken =
    let takes =
    subst (λ (m : ℤ). (w : List ℕ) → number_of w ≡ Some m → next ≡ take w s.line s.found) (to_z-of_z fits) taken in
    number_passed s text _ n _ next (rw view none) (no_bytes s.word (rw counted empty)) found behind takes

pub pass_separator-requires : goal.pass_separator-requires
pass_separator-requires g c =
    let same =
    passed c.args.text.now c.self.view_is c.requires.text (sym c.is_empty.ensures ∙ c.if-not-is_empty.false)
    (omega arith) c.in-Some.ensures c.split_at.ensures.back (search rules) c.in_ok-take_number.ensures.taken in
    same_room take _ _ _ _ _ same (rw (← c.self.view_is) at c.requires.room)

pub returns-clause-same : goal.returns-clause-same
returns-clause-same g c =
    let same =
    passed c.args.text.now c.self.view_is c.requires.text (sym c.is_empty.ensures ∙ c.if-not-is_empty.false)
    (omega arith) c.in-Some.ensures c.split_at.ensures.back (search rules) c.in_ok-take_number.ensures.taken in
    rw (← c.self.view_is) (same ∙ c.pass_separator.ensures.same)
