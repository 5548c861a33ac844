-- The lines of a body one after another: the entries of the stack, and for each open IF the list of entries at which
-- its other part begins, or with which it ended.
use Rattle.std.specs.Prelude.{◌≡◌, ℕ, ◌-◌, Bool, true, Option, List, [], ◌∷◌, length, take, Result, Ok, Err}
use Rattle.vcode_base.specs.TextAnswers.{Fails}
use Rattle.vcode_base.specs.declared.fault.TextFault.{TextFault}
use Rattle.vcode_base.specs.declared.kind.Kind.{Kind}
use Rattle.vcode_base.specs.declared.kind.Kind.TheVariants as kind
use Rattle.vcode_base.specs.declared.instr.Instr.TheVariants.{Call}
use Rattle.vcode_base.specs.Kinds.{are_same_kinds}
use Rattle.vcode_reader.specs.Callees.{callee_of}
use Rattle.vcode_reader.specs.declared.line.CodeItem.{CodeItem}
use Rattle.vcode_reader.specs.declared.line.CodeItem.TheVariants as code_item
use Rattle.vcode_reader.specs.Trees.{Item, CodeLine, Function, lines_of}
use Rattle.verifier.specs.declared.fault.KindFault.{KindFault}
use Rattle.verifier.specs.Faults.{Fault}
use Rattle.verifier.specs.First.{stack_after_arrow, stack_after_move, arrow_of, stack_after_call}
use Rattle.verifier.specs.First.{stack_after_instruction, stack_after_endif, ◌>>=◌}
use Rattle.verifier.specs.Kinded.{Scope}
use Rattle.verifier.specs.Steps.{Step, Replace, Shift, BeginIf, BeginElse, EndIf, Change}

-- the entries of the stack, and the lists that are kept for the open IFs, the innermost first
pub record State : Type 0 where
  pub kinds : List Kind
  pub kept : List (List Kind)

-- these entries with these lists
abbrev pub state_with : List (List Kind) → Result (List Kind) Fault → Result State Fault
state_with kept (Ok ks) = Ok (record { kinds = ks; kept = kept })
state_with kept (Err fault) = Err fault

-- the entries and the list that is kept last change places
abbrev pub state_after_else : List Kind → List (List Kind) → State
state_after_else ks [] = record { kinds = ks; kept = [] }
state_after_else ks (other ∷ kept) = record { kinds = other; kept = ks ∷ kept }

-- the entries are those that are kept last, if any are
abbrev pub is_kept_last : List Kind → List (List Kind) → Bool
is_kept_last ks [] = true
is_kept_last ks (first ∷ kept) = are_same_kinds first ks

abbrev pub others_of : {A : Type 0} → List A → List A
others_of [] = []
others_of (x ∷ xs) = xs

abbrev pub state_after_endif : List (List Kind) → ℕ → List Kind → Result State Fault
state_after_endif [] line ks = Ok (record { kinds = ks; kept = [] })
state_after_endif (first ∷ kept) line ks = state_with kept (stack_after_endif line first ks)

abbrev pub state_after_step : Step → State → Result State Fault
state_after_step (Replace takes gives line) s = state_with s.kept (stack_after_arrow takes gives line s.kinds)
state_after_step (Shift motion i j line) s = state_with s.kept (stack_after_move motion i j line s.kinds)
state_after_step BeginIf s = Ok (record s { kept = s.kinds ∷ s.kept })
state_after_step BeginElse s = Ok (state_after_else s.kinds s.kept)
state_after_step (EndIf line) s = state_after_endif s.kept line s.kinds

abbrev pub state_after_line : Scope → CodeItem Item → ℕ → State → Result State Fault
state_after_line scope (code_item.Do item) line s = state_with s.kept (stack_after_instruction scope item line s.kinds)
state_after_line scope code_item.If line s =
    state_after_step (Replace (kind.Bool ∷ []) [] line) s >>= state_after_step BeginIf
state_after_line scope code_item.Else line s = state_after_step BeginElse s
state_after_line scope code_item.Endif line s = state_after_step (EndIf line) s

abbrev pub state_after_lines : Scope → Result State Fault → List CodeLine → Result State Fault
state_after_lines scope r [] = r
state_after_lines scope r (x ∷ xs) = state_after_lines scope (r >>= state_after_line scope x.item x.number) xs

-- the lines of a function before its RET
abbrev pub front_of : Function → List CodeLine
front_of f = take (length (lines_of f) - 1) (lines_of f)

-- the answer, with the state then, is the one that is wanted, unless there was no memory
abbrev pub Goes : {A B : Type 0} → Result A (TextFault KindFault) → B → Result B Fault → Type 0
Goes (Ok x) now wanted = wanted ≡ Ok now
Goes (Err fault) now wanted = Fails fault wanted

-- what a step of the verifier's stack does
abbrev pub StepGoes : Step → Change State (TextFault KindFault)
StepGoes step old result new = Goes result new (state_after_step step old)

-- what a CALL does to it, whose callee is the place of the function of this name
abbrev pub CallGoes : Scope → Option ℕ → List ℕ → ℕ → Change State (TextFault KindFault)
CallGoes scope callee name line old result new =
    callee ≡ callee_of scope.functions (code_item.Do (Call name))
    → Goes result new (state_with old.kept (stack_after_call (arrow_of scope name) line old.kinds))
