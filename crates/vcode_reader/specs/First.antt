-- The first fault of a text, and what a reader of the grammar answers.
use Rattle.std.specs.Prelude.{◌≡◌, ◌⊎◌, ℕ, List, [], ◌∷◌, ◌++◌, Option, Some, None, Result, Ok, Err}
use Rattle.vcode_reader.specs.declared.fault.CodeFault.TheVariants.{Unfinished}
use Rattle.vcode_base.specs.declared.fault.TextFault.TheVariants.{Memory, At}
use Rattle.vcode_reader.specs.Gram.{Gram}
use Rattle.vcode_reader.specs.Parsing.{Parse, start, take}
use Rattle.vcode_reader.specs.Reading.{result_at_end, reading}
use Rattle.vcode_reader.specs.Refusals.{Fault, ReadFault}
use Rattle.vcode_reader.specs.Scan.{Word, words, open_comment}
use Rattle.vcode_reader.specs.Trees.{Function, Program}

-- some further words complete these words to a program
abbrev pub IsGood : List Word → Type 0
IsGood ws = (more : List Word) × (fs : List Function) × Gram fs (ws ++ more)

-- what is open after the words
unfoldable pub run : Parse → List Word → Parse
run p [] = p
run p (w ∷ ws) = run (take w.text w.line p) ws

-- the first word after the longest good front, and what the table says of it there
pub record FirstFault (ws : List Word) (fault : Fault) : Type 0 where
  pub before : List Word
  pub word : Word
  pub after : List Word
  pub words_are : ws ≡ before ++ word ∷ after
  pub good : IsGood before
  pub not_good : IsGood (before ++ word ∷ []) → ⊥
  pub refusal : (take word.text word.line (run start before)).fault ≡ Some fault

-- every word is good, and the text ends inside something that began at the fault's line
pub record IsUnfinished (ws : List Word) (comment : Option ℕ) (fault : Fault) : Type 0 where
  pub good : IsGood ws
  pub not_whole : comment ≡ None → (fs : List Function) → Gram fs ws → ⊥
  pub is_unfinished : fault.0 ≡ Unfinished
  pub line : result_at_end None comment (run start ws) ≡ Err fault

-- the functions that the grammar relates to the words, if they end in no comment, or the first fault
abbrev pub IsWanted : Result (List Function) Fault → List Word → Option ℕ → Type 0
IsWanted (Ok fs) ws comment = (comment ≡ None) × Gram fs ws
IsWanted (Err fault) ws comment = FirstFault ws fault ⊎ IsUnfinished ws comment fault

-- the program of the text, or its first fault
abbrev pub IsReading : Result Program Fault → ℕ → List ℕ → Type 0
IsReading (Ok p) first bytes =
    (p.first_line ≡ first) × IsWanted (Ok p.functions) (words first bytes) (open_comment first bytes)
IsReading (Err fault) first bytes = IsWanted (Err fault) (words first bytes) (open_comment first bytes)

-- the same of an answer that may be out of memory
abbrev pub IsAnswer : Result Program ReadFault → ℕ → List ℕ → Type 0
IsAnswer (Ok p) first bytes = IsReading (Ok p) first bytes
IsAnswer (Err Memory) first bytes = Unit {0}
IsAnswer (Err (At refusal line)) first bytes = IsReading (Err (refusal, line)) first bytes

-- every text has a reading by the grammar
abbrev pub EveryTextIsRead : Type 0
EveryTextIsRead = (first : ℕ) (bytes : List ℕ) → IsReading (reading first bytes) first bytes

-- what the grammar relates to the words of a text that leaves no comment open is what is read
abbrev pub WholeTextsAreRead : Type 0
WholeTextsAreRead =
    (first : ℕ) (bytes : List ℕ) (fs : List Function) → Gram fs (words first bytes) → open_comment first bytes ≡ None →
    reading first bytes ≡ Ok (record { first_line = first; functions = fs })

-- words are the words of one list of functions at most
abbrev pub OneProgram : Type 0
OneProgram = (ws : List Word) (fs gs : List Function) → Gram fs ws → Gram gs ws → fs ≡ gs
