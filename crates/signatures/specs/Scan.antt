-- A text that comes byte by byte: its state, and what each byte does.
use Rattle.std.specs.Prelude.{◌≡◌, ℕ, ◌+◌, Bool, false, if◌then◌else◌, List, [], ◌∷◌, ◌++◌}
use Rattle.std.specs.Prelude.{Option, Some, None, is_some, Result, Ok, Err}
use Rattle.vcode_base.specs.Lines.{is_line_feed}
use Rattle.signatures.specs.declared.fault.SignatureFault.{SignatureFault}
use Rattle.signatures.specs.Faults.{Fault}
use Rattle.signatures.specs.Reading.{after_line}
use Rattle.signatures.specs.Signatures.{Signature}

-- the signatures of the whole lines, the first fault among them, the bytes of the open line, and its number
pub record Scan : Type 0 where
  pub known : List Signature
  pub fault : Option Fault
  pub line : List ℕ
  pub number : ℕ

abbrev pub beginning : ℕ → Scan
beginning first = record { known = []; fault = None; line = []; number = first }

-- with the reading of the open line
abbrev pub scan_with : Result (List Signature) SignatureFault → Scan → Scan
scan_with (Ok known) s = record s { known = known }
scan_with (Err fault) s = record s { fault = Some (fault, s.number) }

-- the open line is whole; after a fault no line counts
unfoldable pub scan_after_line : Scan → Scan
scan_after_line s = if is_some s.fault then s else scan_with (after_line s.known s.line) s

abbrev pub scan_at_next_line : Scan → Scan
scan_at_next_line s = record s { line = []; number = s.number + 1 }

unfoldable pub scan_after_byte : Scan → ℕ → Scan
scan_after_byte s b =
    if is_line_feed b then scan_at_next_line (scan_after_line s) else record s { line = s.line ++ b ∷ [] }

unfoldable pub scan_after_bytes : Scan → List ℕ → Scan
scan_after_bytes s [] = s
scan_after_bytes s (b ∷ bs) = scan_after_bytes (scan_after_byte s b) bs

abbrev pub fault_or_known : Option Fault → List Signature → Result (List Signature) Fault
fault_or_known None known = Ok known
fault_or_known (Some fault) known = Err fault

-- what the bytes so far give, if the text ends after them
unfoldable pub outcome : Scan → Result (List Signature) Fault
outcome s = let e = scan_after_line s in fault_or_known e.fault e.known

-- a reader of pieces: the state of its text, and whether it failed for lack of memory
pub record ReaderState : Type 0 where
  pub scan : Scan
  pub failed : Bool

-- the pieces so far are these bytes, from this line on, and the reader hasn't failed
pub record HasCome (r : ReaderState) (first : ℕ) (bytes : List ℕ) : Type 0 where
  pub going : r.failed ≡ false
  pub scanned : r.scan ≡ scan_after_bytes (beginning first) bytes
