-- Numbers at the front of a text, and instructions whose words are taken at once.
use Rattle.std.proofs.Common.{rules, to_z-of_z, ◌≡◌, ℕ, ℤ, ◌+◌, ◌<◌, ◌≤◌, true, false, List, [], ◌∷◌, ◌++◌, Some, None}
use Rattle.std.proofs.Common.{refl, arith, ap, add-one, length, drop, get_or, ◌∙◌, ◌-◌, sym, codes}
use Rattle.std.specs.Prelude.{is_some}
use Rattle.std.specs.Str.{bytes_eq}
use Rattle.std.proofs.lemmas.Bool.Decides.{nat_tests}
use Rattle.std.proofs.lemmas.Slice.Eq.{bytes_eq-Decides}
use Rattle.std.proofs.lemmas.List.{length-take-le, drop-drop}
use Rattle.vcode_base.specs.Bytes.{IsNumberAtFront, digit_count, is_digit}
use Rattle.vcode_base.specs.declared.kind.Scalar.{Scalar}
use Rattle.vcode_base.specs.declared.kind.Scalar.TheVariants as scalar
use Rattle.vcode_base.specs.declared.limits.TheConstants.{MOST_ELEMENTS}
use Rattle.vcode_reader.specs.declared.fault.CodeFault.TheVariants.{TooLarge}
use Rattle.vcode_reader.specs.declared.place.Place.{Place}
use Rattle.vcode_reader.specs.Ahead.{HasDigits, HasNumber, awaits_number, HasInt, HasWord, IsDigit}
use Rattle.vcode_reader.specs.Classes.{class_of, is_plain, plain_length}
use Rattle.vcode_reader.specs.Numbers.{negative, number_of, positive, natural_of}
use Rattle.vcode_reader.specs.Parsing.{Parse, at_place, one_element, take as take_word, with_fault, after_slot}
use Rattle.vcode_reader.specs.Scan.{Scan, scan_all}
use Rattle.vcode_reader.proofs.Pieces.{dropped, plain_range, separates, whole_word, passes_blank, passes_word}
use Rattle.vcode_base.specs.declared.op.StackMove.{StackMove}
use Rattle.vcode_reader.specs.declared.keyword.Keyword.{Keyword}
use Rattle.vcode_reader.specs.declared.keyword.Keyword.TheVariants.{Const, Move}
use Rattle.vcode_reader.specs.Keywords.{keyword_slots, takes_kind}

-- ---- digits at the front of a text

digit_plain : (b : ℕ) → is_digit b ≡ true → is_plain (class_of b) ≡ true
digit_plain b h = plain_range b (grind (arith, nat_tests)) (grind (arith, nat_tests))

-- the digits at the front are the plain bytes there, if a blank or a control byte follows them
digits_plain : (t : List ℕ) → digit_count t < length t → get_or t (digit_count t) 0 ≤ 32 → plain_length t
    ≡ digit_count t
digits_plain [] lt low = refl
digits_plain (b ∷ bs) lt low = grind (arith, nat_tests, digit_plain, separates, digits_plain bs)

pub digits_found : (m v k : ℕ) (t : List ℕ) → IsNumberAtFront m t v k → k < length t → get_or t k 0 ≤ 32
    → HasDigits t v k
digits_found m v k t h more low = grind (arith, nat_tests, digits_plain)

-- ---- digits as a number

pub positive_found : (t : List ℕ) (v d : ℕ) (n : ℤ) → HasDigits t v d → positive (Some v) ≡ Some n → HasNumber t n d
unfolding number_of
positive_found t v d n h e = grind (arith, nat_tests)

pub negative_found : (t rest : List ℕ) (v d : ℕ) (n : ℤ) → 1 ≤ length t → get_or t 0 0 ≡ 45 → rest ≡ drop 1 t
    → HasDigits rest v d → negative (Some v) ≡ Some n → HasNumber t n (d + 1)
unfolding number_of
negative_found t rest v d n some minus behind h e = grind (arith, nat_tests, add-one, plain_range)

-- ---- a number is no parenthesis

no_lone : (b : ℕ) (w : List ℕ) (n : ℤ) → number_of (b ∷ []) ≡ None → number_of w ≡ Some n →
    bytes_eq w (b ∷ []) ≡ false
no_lone b w n none e = grind (arith, nat_tests, bytes_eq-Decides)

-- ---- a number as an element of a list

in_numbers : (place : Place) (kind : Scalar) (p : Parse) (w : List ℕ) (n : ℤ) (l : ℕ) → p.parts.kind ≡ kind
    → awaits_number place kind ≡ true → number_of w ≡ Some n → at_place place w l p ≡ one_element (Some n) w l p
unfolding number_of
in_numbers place kind p w n l same awaits e = grind (arith, nat_tests, bytes_eq-Decides)

pub faulted : (p : Parse) (w : List ℕ) (l : ℕ) → is_some p.fault ≡ true → p ≡ take_word w l p
unfolding take_word
faulted p w l h = rw h refl

pub takes_few : (p : Parse) (w : List ℕ) (n : ℤ) (l : ℕ) → is_some p.fault ≡ false
    → awaits_number p.place p.parts.kind ≡ true → number_of w ≡ Some n → length p.parts.numbers < MOST_ELEMENTS
    → record p { parts = record p.parts { numbers = p.parts.numbers ++ n ∷ [] } } ≡ take_word w l p
unfolding take_word
takes_few p w n l none awaits e few = grind (arith, nat_tests, in_numbers)

pub takes_many : (p : Parse) (w : List ℕ) (n : ℤ) (l : ℕ) → is_some p.fault ≡ false
    → awaits_number p.place p.parts.kind ≡ true → number_of w ≡ Some n → MOST_ELEMENTS ≤ length p.parts.numbers
    → with_fault TooLarge l p ≡ take_word w l p
unfolding take_word
takes_many p w n l none awaits e many = grind (arith, nat_tests, in_numbers)

-- ---- a number as a word

pub number_passed : (s : Scan Parse) (t rest : List ℕ) (n : ℤ) (digits : ℕ) (next : Parse) → s.comment ≡ None
    → s.word ≡ [] → HasNumber t n digits → rest ≡ drop digits t
    → ((w : List ℕ) → number_of w ≡ Some n → next ≡ take_word w s.line s.found)
    → scan_all take_word s t ≡ scan_all take_word (record s { found = next }) rest
number_passed s t rest n digits next none empty h behind takes = search (rules, whole_word, length-take-le, dropped)

-- a number as the next word of a list
pub ruleset number_steps = (faulted, takes_few, takes_many, to_z-of_z)

-- ---- instructions whose words are taken at once

-- a signed number is what its bits give back
pub ruleset signed_back = (to_z-of_z)

-- ---- what the words give

-- an instruction of one kind, which is INT
pub of_int : (k : Keyword) (l : ℕ) (p : Parse) → p.fault ≡ None → takes_kind k ≡ true →
    after_slot k l [] (record p { parts = record p.parts { kind = scalar.Int } })
    ≡ take_word (codes "INT") l (after_slot k l (keyword_slots k) p)
unfolding take_word
of_int k l p good one = grind (arith, nat_tests)

-- a motion of the stack whose counts have one digit each
pub of_digits : (m : StackMove) (a b l : ℕ) (p : Parse) → p.fault ≡ None → IsDigit a → IsDigit b →
    after_slot (Move m) l [] (record p { parts = record p.parts { lower = a - 48; upper = b - 48 } })
    ≡ take_word (b ∷ []) l (take_word (a ∷ []) l (after_slot (Move m) l (keyword_slots (Move m)) p))
unfolding take_word natural_of number_of
of_digits m a b l p good first second = grind (arith, nat_tests)

-- a constant of one number
pub of_number : (w : List ℕ) (n : ℤ) (l : ℕ) (p : Parse) → p.fault ≡ None → number_of w ≡ Some n →
    after_slot Const l [] (record p { parts = record p.parts { kind = scalar.Int; numbers = n ∷ [] } })
    ≡ take_word w l (take_word (codes "INT") l (after_slot Const l (keyword_slots Const) p))
unfolding take_word number_of
of_number w n l p good e = grind (arith, nat_tests, no_lone)

-- ---- the bytes of the words

pub digits_passed : (s : Scan Parse) (t rest : List ℕ) (a b : ℕ) → s.comment ≡ None → s.word ≡ [] →
    HasWord t (a ∷ []) → HasWord (drop 2 t) (b ∷ []) → rest ≡ drop 4 t →
    scan_all take_word s t
    ≡ scan_all take_word (record s { found = take_word (b ∷ []) s.line (take_word (a ∷ []) s.line s.found) }) rest
digits_passed s t rest a b none empty first second behind =
    passes_word take_word s t (a ∷ []) (drop 2 t) none empty first refl
    ∙ passes_word take_word (record s { found = take_word (a ∷ []) s.line s.found }) (drop 2 t) (b ∷ []) rest none empty
    second (behind ∙ sym (drop-drop 2 2 t))

pub int_passed : (s : Scan Parse) (t rest : List ℕ) (n : ℤ) (bytes : ℕ) (next : Parse) → s.comment ≡ None →
    s.word ≡ [] → HasInt t n bytes → rest ≡ drop bytes t →
    ((w : List ℕ) → number_of w ≡ Some n → next ≡ take_word w s.line (take_word (codes "INT") s.line s.found)) →
    scan_all take_word s t ≡ scan_all take_word (record s { found = next }) rest
int_passed s t rest n bytes next none empty has behind takes =
    let kind : Scan Parse = record s { found = take_word (codes "INT") s.line s.found } in
    let some : 1 ≤ length (drop 4 t) = dropped 4 t has.kind.more in
    let sum : 5 + (bytes - 5) ≡ bytes = omega (arith, has.more) in
    passes_word take_word s t (codes "INT") (drop 4 t) none empty has.kind refl
    ∙ (passes_blank take_word kind (drop 4 t) (drop 5 t) none empty some has.blank (sym (drop-drop 1 4 t))
    ∙ number_passed kind (drop 5 t) rest n (bytes - 5) next none empty has.number_is
    (behind ∙ (ap (λ k. drop k t) (sym sum) ∙ sym (drop-drop (bytes - 5) 5 t))) takes)
