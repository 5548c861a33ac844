-- What can be wrong with a line of signatures, its names as the report prints them, and what a line gives.
use Rattle.std.specs.Prelude.{◌≡◌, ℕ, List, codes, Result, Err}
use Rattle.signatures.specs.declared.fault.SignatureFault.{SignatureFault}
use Rattle.signatures.specs.declared.fault.SignatureFault.TheVariants.{BadLine, NameTwice, TooLarge}
use Rattle.signatures.specs.declared.fault.EntryFault.{EntryFault}
use Rattle.signatures.specs.declared.fault.EntryFault.TheVariants.{Memory, Wrong}

abbrev pub signature_fault_text : SignatureFault → List ℕ
signature_fault_text BadLine = codes "G1 BAD_LINE"
signature_fault_text NameTwice = codes "G2 NAME_TWICE"
signature_fault_text TooLarge = codes "G3 TOO_LARGE"

-- a fault and the number of its line
abbrev pub Fault : Type 0
Fault = SignatureFault × ℕ

-- the result of a line is the wanted one, unless there was no memory
abbrev pub OnWrong : {B : Type 0} → EntryFault → Result B SignatureFault → Type 0
OnWrong Memory wanted = Unit {0}
OnWrong (Wrong fault) wanted = wanted ≡ Err fault

-- there was no memory, or the line is a bad one and this holds
abbrev pub OnBadLine : EntryFault → Type 0 → Type 0
OnBadLine Memory P = Unit {0}
OnBadLine (Wrong BadLine) P = P
OnBadLine (Wrong NameTwice) P = ⊥
OnBadLine (Wrong TooLarge) P = ⊥
