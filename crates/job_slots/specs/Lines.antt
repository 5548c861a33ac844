-- Which line of the code is that of a job's next instruction.
use Rattle.std.specs.Prelude.{◌≡◌, ℕ, ℤ, List, ◌∷◌}
use Rattle.vcode_base.specs.declared.op.Op.{Op}
use Rattle.vcode_base.specs.declared.op.Op.TheVariants.{Const, Move, Call, Return}
use Rattle.vcode_base.specs.Instructions.{op_of}
use Rattle.vcode_reader.specs.Pools.{list_in}
use Rattle.vcode_reader.specs.Trees.{CodeLine}
use Rattle.job_steps.specs.Frames.{StandAll, instruction_of}
use Rattle.job_steps.specs.States.{Task, Active}
use Rattle.job_steps.specs.Steps.{next_item}
use Rattle.job_steps.specs.Tracks.{TrackState, functions_of}

-- the line is that of the next instruction
abbrev pub IsLineOf : Task → TrackState ℕ → CodeLine → Type 0
IsLineOf task t line =
    (call : Active) (outer : List Active) → StandAll (functions_of task.verified) t.frames (call ∷ outer) →
    next_item call ≡ instruction_of line

-- this is the next instruction without its list and without the name that it calls
abbrev pub IsOpOfNext : Task → TrackState ℕ → Op → Type 0
IsOpOfNext task t op =
    (call : Active) (outer : List Active) → StandAll (functions_of task.verified) t.frames (call ∷ outer) →
    op ≡ op_of (next_item call).item

-- this is the list of the next instruction, which has no element if that isn't a CONST
abbrev pub IsListOfNext : Task → TrackState ℕ → List ℤ → Type 0
IsListOfNext task t list =
    (call : Active) (outer : List Active) → StandAll (functions_of task.verified) t.frames (call ∷ outer) →
    list ≡ list_in (next_item call).item

-- the instruction takes no operands off the stack, and its result, if it has one, is its list
abbrev pub HasNoOperands : Op → Type 0
HasNoOperands (Const k) = Unit {0}
HasNoOperands (Move motion lower upper) = Unit {0}
HasNoOperands Call = Unit {0}
HasNoOperands Return = Unit {0}
HasNoOperands op = ⊥
