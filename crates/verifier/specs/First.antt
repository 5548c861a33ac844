-- The first kind fault of a program: the first place in the order of its text at which it can't go on.
use Rattle.std.specs.Prelude.{◌≡◌, ◌+◌, ◌-◌, ℕ, Bool, false, nat_lt, if◌then◌else◌}
use Rattle.std.specs.Prelude.{List, [], ◌∷◌, ◌++◌, length, take, drop, Option, Some, None, ok_or, Result, Ok, Err}
use Rattle.std.specs.Str.{bytes_eq}
use Rattle.vcode_base.specs.declared.fault.TextFault.{TextFault}
use Rattle.vcode_base.specs.declared.fault.TextFault.TheVariants.{Memory, At}
use Rattle.vcode_base.specs.declared.kind.Kind.{Kind}
use Rattle.vcode_base.specs.declared.kind.Kind.TheVariants as kind
use Rattle.vcode_base.specs.declared.op.StackMove.{StackMove}
use Rattle.vcode_base.specs.declared.instr.Instr.TheVariants.{Move, Call}
use Rattle.vcode_base.specs.Choices.{or_else}
use Rattle.vcode_base.specs.Instructions.{op_of}
use Rattle.vcode_base.specs.Kinds.{operand_kinds, result_kinds, are_same_kinds}
use Rattle.vcode_base.specs.Motions.{entries_after_move}
use Rattle.vcode_base.specs.Names.{main_name}
use Rattle.vcode_reader.specs.Trees.{Item, Body, End, Do, Choice, Function, Program}
use Rattle.signatures.specs.Signatures.{Signature, kinds_of}
use Rattle.verifier.specs.declared.fault.KindFault.{KindFault}
use Rattle.verifier.specs.declared.fault.KindFault.TheVariants.{MissingOperand, WrongKind, UnknownFunction, ArmsDiffer}
use Rattle.verifier.specs.declared.fault.KindFault.TheVariants.{ResultDiffers, NoSignature, NoMain, MainTakes}
use Rattle.verifier.specs.Faults.{Fault}
use Rattle.verifier.specs.Kinded.{Scope, has_function, scope_of}

infixl 10 ◌>>=◌
abbrev pub ◌>>=◌ : {A B E : Type 0} → Result A E → (A → Result B E) → Result B E
(Ok x) >>= f = f x
(Err e) >>= f = Err e

-- how many entries lie below the top ones
abbrev pub count_below : ℕ → List Kind → ℕ
count_below count ks = length ks - count

-- the entries after an instruction that takes and gives these
unfoldable pub stack_after_arrow : List Kind → List Kind → ℕ → List Kind → Result (List Kind) Fault
stack_after_arrow takes gives line ks =
    if nat_lt (length ks) (length takes) then Err (MissingOperand, line)
    else if are_same_kinds (drop (count_below (length takes) ks) ks) takes
    then Ok (take (count_below (length takes) ks) ks ++ gives)
    else Err (WrongKind, line)

-- these entries of the stack, with the j upper of those on the first n moved, and the i below them
abbrev pub stack_with_move : StackMove → ℕ → ℕ → List Kind → List Kind
stack_with_move motion n i ks = take n ks ++ entries_after_move motion (take i (drop n ks)) (drop i (drop n ks))

-- the entries after a motion of the j upper ones and the i below them
unfoldable pub stack_after_move : StackMove → ℕ → ℕ → ℕ → List Kind → Result (List Kind) Fault
stack_after_move motion i j line ks =
    if nat_lt (length ks) (i + j) then Err (MissingOperand, line)
    else Ok (stack_with_move motion (count_below (i + j) ks) i ks)

-- what a CALL of this name takes and gives
unfoldable pub arrow_of : Scope → List ℕ → Result (List Kind × List Kind) KindFault
arrow_of scope name =
    if has_function name scope.functions then ok_or (kinds_of scope.signatures name) NoSignature
    else Err UnknownFunction

abbrev pub stack_after_call : Result (List Kind × List Kind) KindFault → ℕ → List Kind → Result (List Kind) Fault
stack_after_call (Ok (takes, gives)) line ks = stack_after_arrow takes gives line ks
stack_after_call (Err fault) line ks = Err (fault, line)

-- the entries after an instruction, or why it can't be done
abbrev pub stack_after_instruction : Scope → Item → ℕ → List Kind → Result (List Kind) Fault
stack_after_instruction scope (Move motion i j) line ks = stack_after_move motion i j line ks
stack_after_instruction scope (Call name) line ks = stack_after_call (arrow_of scope name) line ks
stack_after_instruction scope item line ks =
    stack_after_arrow (operand_kinds (op_of item)) (result_kinds (op_of item)) line ks

-- both bodies of an IF end with the same entries
unfoldable pub stack_after_endif : ℕ → List Kind → List Kind → Result (List Kind) Fault
stack_after_endif end first second = if are_same_kinds first second then Ok second else Err (ArmsDiffer, end)

-- the entries after a body, or the first place at which it can't go on
abbrev pub stack_after_body : Scope → Body → List Kind → Result (List Kind) Fault
stack_after_body scope End ks = Ok ks
stack_after_body scope (Do item line rest) ks =
    stack_after_instruction scope item line ks >>= stack_after_body scope rest
stack_after_body scope (Choice line first second end rest) ks =
    stack_after_arrow (kind.Bool ∷ []) [] line ks >>= λ ks. stack_after_body scope first ks
    >>= λ one. stack_after_body scope second ks
    >>= λ other. stack_after_endif end one other >>= stack_after_body scope rest

abbrev pub is_main : Function → Bool
is_main f = bytes_eq f.name main_name

-- the function is MAIN, and takes these, which are some
abbrev pub is_main_with_operands : Function → List Kind → Bool
is_main_with_operands f [] = false
is_main_with_operands f (k ∷ ks) = is_main f

-- that the entries at the RET of this line aren't the signature's results
abbrev pub fault_at_return : List Kind → ℕ → Result (List Kind) Fault → Option Fault
fault_at_return gives ret (Err fault) = Some fault
fault_at_return gives ret (Ok ks) = if are_same_kinds ks gives then None else Some (ResultDiffers, ret)

abbrev pub fault_by_signature : Scope → Function → Option (List Kind × List Kind) → Option Fault
fault_by_signature scope f None = Some (NoSignature, f.line)
fault_by_signature scope f (Some (takes, gives)) =
    if is_main_with_operands f takes then Some (MainTakes, f.line)
    else fault_at_return gives f.ret (stack_after_body scope f.body takes)

unfoldable pub function_fault : Scope → Function → Option Fault
function_fault scope f = fault_by_signature scope f (kinds_of scope.signatures f.name)

abbrev pub functions_fault : Scope → List Function → Option Fault
functions_fault scope [] = None
functions_fault scope (f ∷ fs) = or_else (function_fault scope f) (functions_fault scope fs)

-- that there is no MAIN, at the first line; else the first in the order of the text
unfoldable pub kind_fault : List Signature → Program → Option Fault
kind_fault signatures program =
    if has_function main_name program.functions then functions_fault (scope_of signatures program) program.functions
    else Some (NoMain, program.first_line)

-- the answer at an error: out of memory, or the fault that there is
abbrev pub FaultIs : TextFault KindFault → Option Fault → Type 0
FaultIs Memory found = Unit {0}
FaultIs (At fault line) found = found ≡ Some (fault, line)

-- the same of an answer that may be that there is no fault
abbrev pub Finds : {A : Type 0} → Result A (TextFault KindFault) → Option Fault → Type 0
Finds (Ok x) found = found ≡ None
Finds (Err fault) found = FaultIs fault found
