-- What has come in pieces.
use Rattle.std.proofs.lemmas.Bool.Decides.{nat_tests}
use Rattle.std.proofs.Common.{◌≡◌, ℕ, ◌+◌, Bool, false, List, [], ◌∷◌, ◌++◌, Option, Some, Result, Ok, Err, ap, ◌∙◌}
use Rattle.std.proofs.Common.{◌≤◌, arith, length, length-append, sym}
use Rattle.std.specs.Prelude.{OnOk, is_err}
use Rattle.vcode_reader.specs.declared.class.Class.{Class}
use Rattle.vcode_reader.specs.declared.reader.TheConstants.{MOST_CODE_BYTES}
use Rattle.vcode_reader.specs.Classes.{class_of}
use Rattle.vcode_reader.specs.Parsing.{Parse, take}
use Rattle.vcode_reader.specs.Reading.{ReaderState, HasCome, HasScanned, IsOfBytes, outcome, program_at, reading}
use Rattle.vcode_reader.specs.Refusals.{Fault, ReadFault}
use Rattle.vcode_base.specs.Lines.{line_feeds}
use Rattle.vcode_base.specs.TextAnswers.{Fails}
use Rattle.vcode_reader.specs.Scan.{Scan, by_comment, end_word, lone_word, scan_all, scan_byte}
use Rattle.vcode_reader.specs.Trees.{Function}
use Rattle.vcode_reader.proofs.Pieces.{scan_all-line, scan_all-append}

fed_more : (old new : Scan Parse) (first : ℕ) (piece : List ℕ) → new ≡ scan_all take old piece →
    (before : List ℕ) → HasScanned old first before → HasScanned new first (before ++ piece)
fed_more old new first piece e before h = grind (arith, nat_tests, scan_all-append)

-- the bytes of the piece follow the bytes before
pub of_more_bytes : {A E : Type 0} (r : Result A E) (old new : Scan Parse) (first size more : ℕ)
    (failed : Bool) (piece : List ℕ) → false ≡ is_err r → OnOk r (new ≡ scan_all take old piece) →
    more ≡ size + length piece → more ≤ MOST_CODE_BYTES → IsOfBytes old first size failed →
    IsOfBytes new first more failed
of_more_bytes (Ok x) old new first size more failed piece fine h sum within before = λ going.
    let b = before going in
    (b.0 ++ piece, fed_more old new first piece h b.0 b.1, omega (arith, length-append b.0 piece), within)
of_more_bytes (Err x) old new first size more failed piece fine h sum within before = grind (arith, nat_tests)

pub fed_all : {A E : Type 0} (r : Result A E) (o : ReaderState) (old new : Scan Parse) (first size more : ℕ)
    (failed : Bool) (piece : List ℕ) →
    o ≡ record { scan = old; first_line = first; size = size; failed = failed } → failed ≡ false →
    more ≡ size + length piece → OnOk r (new ≡ scan_all take old piece) →
    OnOk r ((before : List ℕ) → HasCome o before →
    HasCome (record { scan = new; first_line = first; size = more; failed = failed }) (before ++ piece))
fed_all r o old new first size more failed piece v f sum h = grind (arith, nat_tests, scan_all-append, length-append)

pub fed_line : {A E : Type 0} (r : Result A E) (old new : Scan Parse) (piece : List ℕ) →
    OnOk r (new ≡ scan_all take old piece) → OnOk r (new.line ≡ old.line + line_feeds piece)
fed_line r old new piece h = grind (arith, nat_tests, scan_all-line)

came : (r : ReaderState) (bytes : List ℕ) → HasCome r bytes →
    reading r.first_line bytes ≡ program_at r.first_line (outcome r.scan)
unfolding reading
came r bytes h = ap (λ s. program_at r.first_line (outcome s)) (sym h.scanned)

pub answer_ok : (r : ReaderState) (fs : List Function) → outcome r.scan ≡ Ok fs → (bytes : List ℕ) → HasCome r bytes →
    reading r.first_line bytes ≡ Ok (record { first_line = r.first_line; functions = fs })
answer_ok r fs e bytes h = came r bytes h ∙ ap (program_at r.first_line) e

pub answer_err : (fault : ReadFault) (r : ReaderState) → Fails fault (outcome r.scan) → (bytes : List ℕ) →
    HasCome r bytes → Fails fault (reading r.first_line bytes)
answer_err fault r e bytes h = grind (arith, nat_tests, came)

-- ---- a text that has a fault

in_byte : (o : Option ℕ) (c : Class) (b : ℕ) (s : Scan Parse) (f : Fault) → s.found.fault ≡ Some f →
    (by_comment take o c b s).found.fault ≡ Some f
unfolding lone_word end_word take
in_byte o c b s f h = grind (arith, nat_tests)

in_bytes : (bs : List ℕ) (s : Scan Parse) (f : Fault) → s.found.fault ≡ Some f →
    (scan_all take s bs).found.fault ≡ Some f
unfolding scan_all scan_byte
in_bytes [] s f h = h
in_bytes (b ∷ bs) s f h = in_bytes bs (scan_byte take s b) f (in_byte s.comment (class_of b) b s f h)

-- the first fault of the bytes so far is that of each longer text
pub longer_text : (r : ReaderState) (f : Fault) → r.scan.found.fault ≡ Some f → (bytes more : List ℕ) →
    HasCome r bytes → reading r.first_line (bytes ++ more) ≡ Err f
unfolding reading outcome end_word take
longer_text r f e bytes more h = grind (arith, nat_tests, scan_all-append, in_bytes)
