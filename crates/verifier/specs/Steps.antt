-- What a line of the code does to a stack, whatever an entry of the stack is.
use Rattle.std.specs.Prelude.{ℕ, ◌⊎◌, List, [], ◌∷◌, Result, Ok, IsErr}
use Rattle.vcode_base.specs.declared.instr.Instr.TheVariants.{Move, Call}
use Rattle.vcode_base.specs.declared.kind.Kind.{Kind}
use Rattle.vcode_base.specs.declared.kind.Kind.TheVariants as kind
use Rattle.vcode_base.specs.declared.op.StackMove.{StackMove}
use Rattle.vcode_base.specs.Instructions.{op_of}
use Rattle.vcode_base.specs.Kinds.{operand_kinds, result_kinds}
use Rattle.vcode_reader.specs.declared.line.CodeItem.{CodeItem}
use Rattle.vcode_reader.specs.declared.line.CodeItem.TheVariants as code_item
use Rattle.vcode_reader.specs.Trees.{Item}

-- a step of a stack, with its line if the step may be refused
pub data Step : Type 0 where
  Replace : (takes gives : List Kind) (line : ℕ) → Step
  Shift : (motion : StackMove) (lower upper line : ℕ) → Step
  BeginIf : Step
  BeginElse : Step
  EndIf : (line : ℕ) → Step

-- how a stack changes: the stack before, the answer, and the stack after
abbrev pub Change : Type 0 → Type 0 → Type 1
Change S F = S → Result (Unit {0}) F → S → Type 0

-- a change, and then another one unless the first is refused
abbrev pub Then : {S F : Type 0} → Change S F → Change S F → Change S F
Then First Second old result new =
    (IsErr result × First old result new) ⊎ ((between : _) × First old (Ok tt) between × Second between result new)

-- what an instruction does, by what each step and a CALL of a name do
abbrev pub DoesInstruction : {S F : Type 0} → (Step → Change S F) → (List ℕ → ℕ → Change S F) → Item → ℕ
    → Change S F
DoesInstruction After AfterCall (Move motion i j) line = After (Shift motion i j line)
DoesInstruction After AfterCall (Call name) line = AfterCall name line
DoesInstruction After AfterCall item line =
    After (Replace (operand_kinds (op_of item)) (result_kinds (op_of item)) line)

-- An IF takes a BOOL.
abbrev pub DoesIf : {S F : Type 0} → (Step → Change S F) → ℕ → Change S F
DoesIf After line = Then (After (Replace (kind.Bool ∷ []) [] line)) (After BeginIf)

-- what a line does
abbrev pub DoesLine : {S F : Type 0} → (Step → Change S F) → (List ℕ → ℕ → Change S F) → CodeItem Item → ℕ
    → Change S F
DoesLine After AfterCall (code_item.Do item) line = DoesInstruction After AfterCall item line
DoesLine After AfterCall code_item.If line = DoesIf After line
DoesLine After AfterCall code_item.Else line = After BeginElse
DoesLine After AfterCall code_item.Endif line = After (EndIf line)
