-- The reading of a text: its program, or its first fault with the line.
use Rattle.std.specs.Prelude.{◌≡◌, ◌≤◌, ℕ, Bool, false, List, length, Option, Some, None, Result, Ok, Err, Vec}
use Rattle.vcode_reader.specs.declared.reader.TheConstants.{MOST_CODE_BYTES}
use Rattle.vcode_reader.specs.declared.fault.CodeFault.TheVariants.{Unfinished}
use Rattle.vcode_base.specs.TextAnswers.{Fails}
use Rattle.vcode_reader.specs.declared.place.Place.{Place}
use Rattle.vcode_reader.specs.declared.place.Place.TheVariants.{Outside, Name, Inside, InsideOrInt, Words, Elements}
use Rattle.vcode_reader.specs.Drafts.{innermost_line}
use Rattle.vcode_reader.specs.Parsing.{Parse, start, take}
use Rattle.vcode_reader.specs.Refusals.{Fault, ReadFault}
use Rattle.vcode_reader.specs.Scan.{Scan, beginning, end_word, scan_all}
use Rattle.vcode_reader.specs.Trees.{Function, Program}

-- the innermost open thing that isn't a comment began at this line
abbrev pub at_end : Place → Parse → Result (List Function) Fault
at_end Outside p = Ok p.functions
at_end Name p = Err (Unfinished, p.line)
at_end Inside p = Err (Unfinished, innermost_line p.draft.ifs p.line)
at_end InsideOrInt p = Err (Unfinished, innermost_line p.draft.ifs p.line)
at_end (Words k s begun) p = Err (Unfinished, begun)
at_end (Elements k begun opened) p = Err (Unfinished, opened)

-- the reading of the words if the text ends after them: in a comment that began at this line, or in none
abbrev pub result_at_end : Option Fault → Option ℕ → Parse → Result (List Function) Fault
result_at_end (Some fault) comment p = Err fault
result_at_end None (Some l) p = Err (Unfinished, l)
result_at_end None None p = at_end p.place p

-- these functions, unless something is refused
abbrev pub unless : Option Fault → List Function → Result (List Function) Fault
unless None fs = Ok fs
unless (Some fault) fs = Err fault

-- the fault of a text that ends where what began at this line is open
abbrev pub unfinished_at : Option ℕ → Option Fault
unfinished_at None = None
unfinished_at (Some line) = Some (Unfinished, line)

-- the reading of the bytes so far, if the text ends after them
unfoldable pub outcome : Scan Parse → Result (List Function) Fault
outcome s = let e = end_word take s in result_at_end e.found.fault e.comment e.found

abbrev pub program_at : ℕ → Result (List Function) Fault → Result Program Fault
program_at first (Ok fs) = Ok (record { first_line = first; functions = fs })
program_at first (Err fault) = Err fault

-- the reading of a text whose first line has this number
unfoldable pub reading : ℕ → List ℕ → Result Program Fault
reading first bytes = program_at first (outcome (scan_all take (beginning start first) bytes))

-- what was answered, in a Vec, is what is wanted, unless there was no memory
abbrev pub Gives : {A : Type 0} → Result (Vec Function A) ReadFault → Result (List Function) Fault → Type 0
Gives (Ok found) wanted = wanted ≡ Ok found.items
Gives (Err fault) wanted = Fails fault wanted

-- these bytes have come, from this line on
abbrev pub HasScanned : Scan Parse → ℕ → List ℕ → Type 0
HasScanned s first bytes = s ≡ scan_all take (beginning start first) bytes

-- unless the reading has failed, `size` bytes have come, and these are no more than a code may have
abbrev pub IsOfBytes : Scan Parse → ℕ → ℕ → Bool → Type 0
IsOfBytes s first size failed =
    failed ≡ false → (bytes : List ℕ) × HasScanned s first bytes × (size ≡ length bytes) × (size ≤ MOST_CODE_BYTES)

-- a reader of pieces: the state of its text, the number of the first line, how many bytes have come, and whether it
-- failed for lack of memory
pub record ReaderState : Type 0 where
  pub scan : Scan Parse
  pub first_line : ℕ
  pub size : ℕ
  pub failed : Bool

-- the pieces so far are these bytes, and the reader hasn't failed
pub record HasCome (r : ReaderState) (bytes : List ℕ) : Type 0 where
  pub going : r.failed ≡ false
  pub scanned : HasScanned r.scan r.first_line bytes
  pub size : r.size ≡ length bytes
