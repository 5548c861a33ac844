-- The reading of a text of signatures: its signatures, or its first fault with the line.
use Rattle.std.specs.Prelude.{ℕ, ◌+◌, Bool, ◌||◌, nat_lt, nat_le, if◌then◌else◌, List, [], ◌∷◌, ◌++◌, length, codes}
use Rattle.std.specs.Prelude.{Option, Some, None, is_some, option_and_then, Result, Ok, Err}
use Rattle.std.specs.Str.{bytes_eq}
use Rattle.vcode_base.specs.declared.kind.Kind.{Kind}
use Rattle.vcode_base.specs.declared.kind.Kind.TheVariants.{Int, Bool as BoolKind, Segdes}
use Rattle.vcode_base.specs.declared.limits.TheConstants.{LONGEST_NAME, MOST_FUNCTIONS, MOST_KINDS}
use Rattle.signatures.specs.declared.fault.SignatureFault.{SignatureFault}
use Rattle.signatures.specs.declared.fault.SignatureFault.TheVariants.{BadLine, NameTwice, TooLarge}
use Rattle.signatures.specs.Faults.{Fault}
use Rattle.signatures.specs.Lines.{lines, line_words}
use Rattle.signatures.specs.Signatures.{FunctionType, Signature, signature, kinds_of}
use Rattle.signatures.specs.Spelling.{is_name}

-- ---- the words of a line

abbrev pub kind_of : List ℕ → Option Kind
kind_of word =
    if bytes_eq word (codes "INT") then Some Int
    else if bytes_eq word (codes "BOOL") then Some BoolKind
    else if bytes_eq word (codes "SEGDES") then Some Segdes
    else None

-- the words after a required one
abbrev pub words_behind : List ℕ → List (List ℕ) → Option (List (List ℕ))
words_behind expected [] = None
words_behind expected (w ∷ ws) = if bytes_eq w expected then Some ws else None

-- kinds up to a closing parenthesis, after those so far, and the words after it
unfoldable pub kinds_from : List Kind → List (List ℕ) → Option (List Kind × List (List ℕ))
kinds_from ks [] = None
kinds_from ks (w ∷ ws) =
    if bytes_eq w (codes ")") then Some (ks, ws)
    else option_and_then (λ k. kinds_from (ks ++ k ∷ []) ws) (kind_of w)

-- a list of kinds in parentheses, and the words after it
abbrev pub list_in : List (List ℕ) → Option (List Kind × List (List ℕ))
list_in ws = option_and_then (kinds_from []) (words_behind (codes "(") ws)

-- the kinds, if no word is left
abbrev pub whole_arrow : List Kind → List Kind × List (List ℕ) → Option FunctionType
whole_arrow operands (results, []) = Some (operands, results)
whole_arrow operands (results, w ∷ ws) = None

abbrev pub after_arrow : List Kind → List (List ℕ) → Option FunctionType
after_arrow operands ws = option_and_then (whole_arrow operands) (list_in ws)

abbrev pub after_operands : List Kind × List (List ℕ) → Option FunctionType
after_operands taken = option_and_then (after_arrow taken.0) (words_behind (codes "->") taken.1)

-- the kinds that the words after a name say
unfoldable pub arrow_in : List (List ℕ) → Option FunctionType
arrow_in ws = option_and_then after_operands (list_in ws)

-- ---- a line after these signatures

abbrev pub is_too_large : List Signature → Signature → Bool
is_too_large known s =
    nat_lt LONGEST_NAME (length s.name) || nat_lt MOST_KINDS (length s.operands)
    || nat_lt MOST_KINDS (length s.results) || nat_le MOST_FUNCTIONS (length known)

-- one signature more
unfoldable pub add : List Signature → Signature → Result (List Signature) SignatureFault
add known s =
    if is_too_large known s then Err TooLarge
    else if is_some (kinds_of known s.name) then Err NameTwice
    else Ok (known ++ s ∷ [])

abbrev pub after_name : List Signature → List ℕ → Option FunctionType
    → Result (List Signature) SignatureFault
after_name known name None = Err BadLine
after_name known name (Some kinds) = add known (signature name kinds)

abbrev pub after_words : List Signature → List (List ℕ) → Result (List Signature) SignatureFault
after_words known [] = Ok known
after_words known (w ∷ ws) = if is_name w then after_name known w (arrow_in ws) else Err BadLine

-- one line more
unfoldable pub after_line : List Signature → List ℕ → Result (List Signature) SignatureFault
after_line known line = after_words known (line_words line)

-- ---- a text

-- what the lines after this one give, or the fault of this one with its number
abbrev pub from_line : Result (List Signature) SignatureFault → ℕ → (List Signature → Result (List Signature) Fault)
    → Result (List Signature) Fault
from_line (Ok known) number rest = rest known
from_line (Err fault) number rest = Err (fault, number)

-- what these lines give, the first of this number, after these signatures
unfoldable pub lines_reading : List Signature → ℕ → List (List ℕ) → Result (List Signature) Fault
lines_reading known number [] = Ok known
lines_reading known number (line ∷ more) =
    from_line (after_line known line) number (λ next. lines_reading next (number + 1) more)

-- the reading of a text whose first line has this number
unfoldable pub reading : ℕ → List ℕ → Result (List Signature) Fault
reading first text = lines_reading [] first (lines text)
