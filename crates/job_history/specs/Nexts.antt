-- The next instruction of a run.
use Rattle.std.specs.Prelude.{◌≡◌, ℕ, ℤ, ◌+◌, ◌==◌, ◌≤◌, Bool, false, List, length, Option, Some, None}
use Rattle.std.specs.Str.{bytes_eq}
use Rattle.vcode_base.specs.declared.instr.Instr.TheVariants.{Call}
use Rattle.vcode_base.specs.declared.op.Op.{Op}
use Rattle.vcode_base.specs.declared.op.Op.TheVariants.{Move}
use Rattle.vcode_base.specs.Instructions.{op_of}
use Rattle.vcode_reader.specs.declared.line.CodeItem.{CodeItem}
use Rattle.vcode_reader.specs.declared.line.CodeItem.TheVariants as code_item
use Rattle.vcode_reader.specs.Trees.{CodeLine, Item}
use Rattle.job_steps.specs.Frames.{instruction_in}
use Rattle.job_steps.specs.Motions.{stack_after}
use Rattle.job_steps.specs.Steps.{Progress}
use Rattle.job_profile.specs.Walks.{next_line_in}
use Rattle.job_history.specs.declared.next.Next.{Next}

abbrev pub next_of : Option CodeLine → Option Next
next_of None = None
next_of (Some line) = Some (record { op = op_of (instruction_in line.item); line = line.number })

-- the instruction of the line that is next, and its number
abbrev pub next_in : Progress → Option Next
next_in p = next_of (next_line_in p)

abbrev pub name_of : Item → Option (List ℕ)
name_of (Call name) = Some name
name_of item = None

abbrev pub name_in : CodeItem Item → Option (List ℕ)
name_in (code_item.Do i) = name_of i
name_in _ = None

abbrev pub callee_of : Option CodeLine → Option (List ℕ)
callee_of None = None
callee_of (Some line) = name_in line.item

-- the name of the function that the next instruction calls
abbrev pub callee_in : Progress → Option (List ℕ)
callee_in p = callee_of (next_line_in p)

-- there is an instruction, and it is on the line of this number
abbrev pub is_next_on : ℕ → Option Next → Bool
is_next_on number None = false
is_next_on number (Some next) = next.line == number

-- there is a name, and it is this one
abbrev pub is_callee : List ℕ → Option (List ℕ) → Bool
is_callee name None = false
is_callee name (Some callee) = bytes_eq callee name

-- the entries that it moves are there
abbrev pub IsMoveDeep : Op → ℕ → Type 0
IsMoveDeep (Move motion lower upper) depth = lower + upper ≤ depth
IsMoveDeep op depth = Unit {0}

-- an instruction was executed, which has made of these vectors of the entries those, the top first
pub record IsExecuted (next : Next) (old new : List (List ℤ)) : Type 0 where
  pub results : List (List ℤ)
  pub is : new ≡ stack_after next.op results old
  pub deep : IsMoveDeep next.op (length old)

abbrev pub Follows : Option Next → (old new : List (List ℤ)) → Type 0
Follows None old new = ⊥
Follows (Some next) old new = IsExecuted next old new
