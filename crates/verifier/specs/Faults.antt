-- The names of the kind faults as the report prints them.
use Rattle.std.specs.Prelude.{ℕ, List, codes}
use Rattle.verifier.specs.declared.fault.KindFault.{KindFault}
use Rattle.verifier.specs.declared.fault.KindFault.TheVariants.{MissingOperand, WrongKind, UnknownFunction, ArmsDiffer}
use Rattle.verifier.specs.declared.fault.KindFault.TheVariants.{ResultDiffers, NoSignature, NoMain, MainTakes}

abbrev pub kind_fault_text : KindFault → List ℕ
kind_fault_text MissingOperand = codes "V1 MISSING_OPERAND"
kind_fault_text WrongKind = codes "V2 WRONG_KIND"
kind_fault_text UnknownFunction = codes "V3 UNKNOWN_FUNCTION"
kind_fault_text ArmsDiffer = codes "V4 ARMS_DIFFER"
kind_fault_text ResultDiffers = codes "V5 RESULT_DIFFERS"
kind_fault_text NoSignature = codes "V6 NO_SIGNATURE"
kind_fault_text NoMain = codes "V7 NO_MAIN"
kind_fault_text MainTakes = codes "V8 MAIN_TAKES"

-- a fault and its line
abbrev pub Fault : Type 0
Fault = KindFault × ℕ
