-- A text of signatures for a code, and why there is none.
use Rattle.std.specs.Prelude.{◌≡◌, ◌<◌, ℕ, List, length, Some, Ok, Err, slice_get}
use Rattle.vcode_reader.specs.Trees.{Function, Program}
use Rattle.vcode_reader.specs.Reading.{reading}
use Rattle.signatures.specs.First.{TextSays}
use Rattle.signatures.specs.Signatures.{Signature}
use Rattle.verifier.specs.Kinded.{IsWellKinded}
use Rattle.kind_finder.specs.declared.fault.FindFault.{FindFault}
use Rattle.kind_finder.specs.declared.fault.FindFault.TheVariants as find

-- the first n of these signatures have the names of the first n of these functions
abbrev pub AreNamed : ℕ → List Signature → List Function → Type 0
AreNamed n signatures functions =
    (k : ℕ) (s : Signature) (f : Function) → k < n → slice_get signatures k ≡ Some s → slice_get functions k ≡ Some f →
    s.name ≡ f.name

-- one signature for each function, in their order
pub record AreOfFunctions (signatures : List Signature) (functions : List Function) : Type 0 where
  pub count : length signatures ≡ length functions
  pub names : AreNamed (length functions) signatures functions

-- the text says the signatures of the functions, in their order, and the program is well kinded by them
abbrev pub SaysSignatures : Program → List ℕ → Type 0
SaysSignatures program text =
    (signatures : List Signature) × TextSays text signatures × AreOfFunctions signatures program.functions
    × IsWellKinded signatures program

-- the code is read as a program of which the text says such signatures
abbrev pub SaysSignaturesOf : List ℕ → List ℕ → Type 0
SaysSignaturesOf code text = (program : Program) × (reading 1 code ≡ Ok program) × SaysSignatures program text

-- a fault of a program, and not of the text of its code
abbrev pub IsOfProgram : {N : Type 0} → FindFault N → Type 0
IsOfProgram find.Memory = Unit {0}
IsOfProgram (find.Code fault line) = ⊥
IsOfProgram (find.Function obstacle name line) = Unit {0}
IsOfProgram (find.Program fault line) = Unit {0}

-- a fault of the code is the first that reading it has; without one, it is a fault of the program
abbrev pub IsFaultOf : {N : Type 0} → List ℕ → FindFault N → Type 0
IsFaultOf code find.Memory = Unit {0}
IsFaultOf code (find.Code fault line) = reading 1 code ≡ Err (fault, line)
IsFaultOf code (find.Function obstacle name line) = (program : Program) × (reading 1 code ≡ Ok program)
IsFaultOf code (find.Program fault line) = (program : Program) × (reading 1 code ≡ Ok program)
