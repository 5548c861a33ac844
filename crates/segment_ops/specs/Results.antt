-- What an instruction that may have a fault leaves.
use Rattle.std.specs.Prelude.{◌≡◌, ℤ, List, Result, MatchResult, None, Some}
use Rattle.vcode_base.specs.Meaning.{segmented_fault, segmented_result}
use Rattle.vcode_base.specs.declared.fault.DataFault.{DataFault}
use Rattle.vcode_base.specs.declared.op.Segmented.{Segmented}

-- the result of the instruction was written, or its fault is the answer
abbrev pub HasResultOrFault : Segmented → List (List ℤ) → Result (Unit {0}) DataFault → List ℤ → Type 0
HasResultOrFault op operands answer out = MatchResult answer
    (λ _. (segmented_fault op operands ≡ None) × (out ≡ segmented_result op operands))
    (λ fault. segmented_fault op operands ≡ Some fault)
