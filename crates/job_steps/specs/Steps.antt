-- One instruction of a job that runs alone: what ends the job before it, and the state after it.
use Rattle.std.specs.Prelude.{ℕ, ℤ, pos, ◌+◌, ◌==◌, nat_lt, nat_le, max, Bool, true, false, ◌&&◌, if◌then◌else◌, List}
use Rattle.std.specs.Prelude.{[], ◌∷◌, length, drop, reverse, slice_index_or, take, Option, Some, None}
use Rattle.vcode_base.specs.declared.instr.Instr.TheVariants.{Const, If, Move, Call, Return}
use Rattle.vcode_base.specs.declared.op.Op.{Op}
use Rattle.vcode_base.specs.declared.op.Op.TheVariants as op
use Rattle.vcode_base.specs.declared.kind.Kind.{Kind}
use Rattle.vcode_base.specs.declared.limits.Limits.{Limits}
use Rattle.vcode_base.specs.declared.rule.Rule.{Rule}
use Rattle.vcode_base.specs.declared.rule.Rule.TheVariants.{First, Second}
use Rattle.vcode_base.specs.declared.fault.DataFault.{DataFault}
use Rattle.vcode_base.specs.declared.fault.MemoryFault.{MemoryFault}
use Rattle.vcode_base.specs.declared.fault.MemoryFault.TheVariants as memory
use Rattle.vcode_base.specs.declared.outcome.Outcome.{Outcome}
use Rattle.vcode_base.specs.declared.outcome.Outcome.TheVariants.{Returned, Fault, Memory, Budget}
use Rattle.vcode_base.specs.Elements.{is_set}
use Rattle.vcode_base.specs.Instructions.{op_of}
use Rattle.vcode_base.specs.Kinds.{are_same_kinds, operand_kinds, result_kinds}
use Rattle.vcode_base.specs.Meaning.{operand, shape, value_fault, result_of, second_result_of}
use Rattle.vcode_reader.specs.declared.line.Numbered.{Numbered}
use Rattle.vcode_reader.specs.Decode.{then_body}
use Rattle.vcode_reader.specs.Trees.{Item, Body, End, Do, Choice, line_of}
use Rattle.verifier.specs.Typed.{TypedProgram}
use Rattle.job_steps.specs.Motions.{top_entries, operand_count, stack_after, depth_after}
use Rattle.job_steps.specs.Questions.{Question, need_words}
use Rattle.job_steps.specs.States.{Vector, Task, StackEntry, Active, State, Callee, callee_named, calls_with, words_of}
use Rattle.job_steps.specs.States.{values_of, stack_kinds, held_words, new_entries}

-- how a job ends
abbrev pub Ending : Type 0
Ending = Outcome (List Vector)

-- the state of a job: it runs, or it is over with these counts, or it can't go on
pub data Progress : Type 0 where
  Running : (state : State) → Progress
  Over : (ending : Outcome (List Vector)) (executed peak : ℕ) → Progress
  Stuck : Progress

-- ---- what an instruction reads

abbrev pub sources_of : Item → List StackEntry → List (List ℤ)
sources_of (Const k list) stack = list ∷ []
sources_of item stack = words_of (top_entries (operand_count (op_of item)) stack)

abbrev pub question_of : Item → List StackEntry → Question
question_of item stack = record { op = op_of item; sources = sources_of item stack }

-- vectors of these kinds
abbrev pub vectors_of : List Kind → List (List ℤ) → List Vector
vectors_of [] lists = []
vectors_of (k ∷ ks) [] = []
vectors_of (k ∷ ks) (words ∷ lists) = record { kind = k; words = words } ∷ vectors_of ks lists

-- from the bottom up
abbrev pub results_of : Question → List Vector
results_of q = vectors_of (result_kinds q.op) (result_of q.op q.sources ∷ second_result_of q.op q.sources ∷ [])

-- the choice of an IF
abbrev pub flag_of : Question → Bool
flag_of q = is_set (slice_index_or (operand q.sources 0) 0 (pos 0))

-- ---- whether an instruction can run

-- entries of these kinds, from the bottom up, lie at the top
abbrev pub has_on_top : List Kind → List StackEntry → Bool
has_on_top kinds stack = are_same_kinds kinds (stack_kinds (take (length kinds) stack))

abbrev pub can_call : Option Callee → List StackEntry → Bool
can_call None stack = false
can_call (Some callee) stack = has_on_top callee.arrow.0 stack

-- The entries that the instruction takes are there, of its kinds; those of a CALL are what its function takes, and a
-- motion
-- takes any.
abbrev pub can_run : TypedProgram → Item → List StackEntry → Bool
can_run verified (Call name) stack = can_call (callee_named verified name) stack
can_run verified (Move motion lower upper) stack = nat_le (lower + upper) (length stack)
can_run verified item stack = has_on_top (operand_kinds (op_of item)) stack

-- ---- what ends a job before the instruction's values are looked at

-- what counts as held at an instruction: the words of the stack, under the second rule without the operands
abbrev pub held_at : Rule → Item → State → ℕ
held_at First item s = held_words s.stack
held_at Second item s = held_words (drop (operand_count (op_of item)) s.stack)

-- the words that are held and needed
abbrev pub words_at : Rule → Item → State → ℕ
words_at rule item s = held_at rule item s + need_words (question_of item s.stack)

abbrev pub is_call : Op → Bool
is_call op.Call = true
is_call _ = false

-- the words, the entries afterwards, and the active calls, against the limits
unfoldable pub memory_fault : Limits → Op → ℕ → ℕ → ℕ → Option MemoryFault
memory_fault limits op words depth calls =
    if nat_lt limits.words words then Some memory.Words
    else if nat_lt limits.cells depth then Some memory.Cells
    else if is_call op && nat_lt limits.calls (calls + 1) then Some memory.Calls
    else None

-- the ending by the first fault that there is, at this line
abbrev pub ending_by : ℕ → Option DataFault → Option MemoryFault → Option (Outcome (List Vector))
ending_by line (Some fault) refusal = Some (Fault fault line)
ending_by line None (Some refusal) = Some (Memory refusal line)
ending_by line None None = None

-- the shapes don't fit, or else a limit would be passed
abbrev pub early_ending : Task → Numbered Item → State → Option (Outcome (List Vector))
early_ending task line s =
    ending_by line.number (shape (op_of line.item) (sources_of line.item s.stack))
    (memory_fault task.limits (op_of line.item) (words_at task.rule line.item s)
    (depth_after (op_of line.item) (length s.stack)) (length s.calls))

-- ---- the state after an instruction

-- the next item of a body, which is the RET at its end if nothing else remains
abbrev pub first_item : Body → ℕ → Numbered Item
first_item End ret = line_of Return ret
first_item (Do item line rest) ret = line_of item line
first_item (Choice line first second end rest) ret = line_of If line

-- the next item of a call
abbrev pub next_item : Active → Numbered Item
next_item call = first_item call.rest call.ret

-- the calls after an instruction, after which this remains of the innermost
abbrev pub calls_past : TypedProgram → Item → Active → List Active → List Active
calls_past verified (Call name) call outer = calls_with (callee_named verified name) (call ∷ outer)
calls_past verified Return call outer = outer
calls_past verified item call outer = call ∷ outer

-- the calls after the next item of the innermost, which is of this body; an IF's choice goes before what follows the IF
abbrev pub calls_after : TypedProgram → Bool → Body → ℕ → List Active → List Active
calls_after verified flag End ret outer = outer
calls_after verified flag (Do item line rest) ret outer =
    calls_past verified item (record { rest = rest; ret = ret }) outer
calls_after verified flag (Choice line first second end rest) ret outer =
    record { rest = then_body (if flag then first else second) rest; ret = ret } ∷ outer

-- the instruction is executed, with these calls afterwards; without any the job has returned
abbrev pub progress_past : Rule → Item → State → List Active → Progress
progress_past rule item s [] =
    Over (Returned (reverse (values_of s.stack))) (s.executed + 1) (max s.peak (words_at rule item s))
progress_past rule item s (call ∷ outer) = Running (record {
  stack = stack_after (op_of item) (new_entries s.next (results_of (question_of item s.stack))) s.stack;
  calls = call ∷ outer;
  executed = s.executed + 1;
  next = s.next + length (results_of (question_of item s.stack));
  peak = max s.peak (words_at rule item s);
})

-- the ending by a value fault, or the instruction is executed
abbrev pub progress_by : Rule → Option DataFault → Numbered Item → State → List Active → Progress
progress_by rule (Some fault) line s calls = Over (Fault fault line.number) s.executed s.peak
progress_by rule None line s calls = progress_past rule line.item s calls

-- a job that ends here keeps its counts
abbrev pub progress_unless : Option (Outcome (List Vector)) → State → Progress → Progress
progress_unless None s progress = progress
progress_unless (Some ending) s progress = Over ending s.executed s.peak

abbrev pub progress_at : Task → Numbered Item → State → List Active → Progress
progress_at task line s calls =
    if can_run task.verified line.item s.stack then
    progress_unless (early_ending task line s) s
    (progress_by task.rule (value_fault (op_of line.item) (sources_of line.item s.stack)) line s calls)
    else Stuck

abbrev pub progress_in : Task → State → List Active → Progress
progress_in task s [] = Stuck
progress_in task s (call ∷ outer) =
    progress_at task (next_item call) s
    (calls_after task.verified (flag_of (question_of (next_item call).item s.stack)) call.rest call.ret outer)

-- The first case that fits: the budget is spent; the job can't go on; a shape or a limit ends it; a value has no
-- result;
-- the instruction is executed.
unfoldable pub next_progress : Task → State → Progress
next_progress task s =
    if s.executed == task.limits.budget then Over Budget s.executed s.peak else progress_in task s s.calls
