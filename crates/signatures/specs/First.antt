-- What a text of signatures says, line by line, and its first fault.
use Rattle.std.specs.Prelude.{◌≡◌, ◌≢◌, ◌⊎◌, ◌+◌, ℕ, List, [], ◌∷◌, ◌++◌, length, IsSome, None, Result, Ok, Err}
use Rattle.vcode_base.specs.declared.fault.TextFault.{TextFault}
use Rattle.vcode_base.specs.declared.fault.TextFault.TheVariants.{Memory, At}
use Rattle.signatures.specs.declared.fault.SignatureFault.{SignatureFault}
use Rattle.signatures.specs.declared.fault.SignatureFault.TheVariants.{BadLine, NameTwice, TooLarge}
use Rattle.signatures.specs.Faults.{Fault}
use Rattle.signatures.specs.Lines.{lines, line_words}
use Rattle.signatures.specs.Reading.{reading}
use Rattle.signatures.specs.Signatures.{Signature, kinds_of}
use Rattle.signatures.specs.Spelling.{Says, Fits}

-- a good line: a blank one adds nothing; another adds what it says, if that fits the limits and its name is new
abbrev pub Adds : List Signature → List ℕ → List Signature → Type 0
Adds known line new =
    ((line_words line ≡ []) × (new ≡ known))
    ⊎ ((s : Signature) × Says line s × Fits known s × (kinds_of known s.name ≡ None) × (new ≡ known ++ s ∷ []))

-- what is wrong with a line after these signatures
abbrev pub IsWrong : SignatureFault → List Signature → List ℕ → Type 0
IsWrong BadLine known line = (line_words line ≢ []) × ((s : Signature) → Says line s → ⊥)
IsWrong TooLarge known line = (s : Signature) × Says line s × (Fits known s → ⊥)
IsWrong NameTwice known line = (s : Signature) × Says line s × Fits known s × IsSome (kinds_of known s.name)

-- good lines, which take the signatures before them to those after them
abbrev pub AddAll : List Signature → List (List ℕ) → List Signature → Type 0
AddAll known [] new = known ≡ new
AddAll known (line ∷ more) new = (next : List Signature) × Adds known line next × AddAll next more new

-- the text says these signatures
abbrev pub TextSays : List ℕ → List Signature → Type 0
TextSays text signatures = AddAll [] (lines text) signatures

-- the first line with a fault, if the first line of the text has this number
pub record FirstFault (first : ℕ) (text : List ℕ) (fault : Fault) : Type 0 where
  pub before : List (List ℕ)
  pub line : List ℕ
  pub after : List (List ℕ)
  pub lines_are : lines text ≡ before ++ line ∷ after
  pub known : List Signature
  pub good : AddAll [] before known
  pub wrong : IsWrong fault.0 known line
  pub number : fault.1 ≡ first + length before

-- the signatures of the text, or its first fault
abbrev pub IsReading : Result (List Signature) Fault → ℕ → List ℕ → Type 0
IsReading (Ok signatures) first text = TextSays text signatures
IsReading (Err fault) first text = FirstFault first text fault

-- the same of an answer that may be out of memory
abbrev pub IsAnswer : Result (List Signature) (TextFault SignatureFault) → ℕ → List ℕ → Type 0
IsAnswer (Ok signatures) first text = TextSays text signatures
IsAnswer (Err Memory) first text = Unit {0}
IsAnswer (Err (At fault number)) first text = FirstFault first text (fault, number)

-- every text has a reading, and it is the one that the function gives
abbrev pub EveryTextIsRead : Type 0
EveryTextIsRead = (first : ℕ) (text : List ℕ) → IsReading (reading first text) first text

-- and no other
abbrev pub OneReading : Type 0
OneReading =
    (first : ℕ) (text : List ℕ) (r : Result (List Signature) Fault) → IsReading r first text → reading first text ≡ r
