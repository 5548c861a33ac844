-- The place of a job in its run, with what names its vectors in place of the vectors.
use Rattle.std.specs.Prelude.{◌≡◌, ℕ, ◌+◌, ◌<◌, ◌≤◌, max, List, [], ◌∷◌, length, Some}
use Rattle.vcode_base.specs.declared.instr.Instr.TheVariants.{Call}
use Rattle.vcode_base.specs.declared.limits.Limits.{Limits}
use Rattle.vcode_base.specs.declared.op.Op.{Op}
use Rattle.vcode_base.specs.Instructions.{op_of}
use Rattle.vcode_base.specs.Kinds.{result_kinds}
use Rattle.vcode_base.specs.declared.op.Op.TheVariants.{Move}
use Rattle.vcode_reader.specs.declared.line.CodeItem.TheVariants as code_item
use Rattle.vcode_reader.specs.Trees.{Item, Function, IsProperBody}
use Rattle.verifier.specs.Typed.{TypedProgram}
use Rattle.job_steps.specs.declared.flow.Flow.{Flow}
use Rattle.job_steps.specs.declared.frame.Frame.{Frame}
use Rattle.job_steps.specs.Flows.{choice, flow_of}
use Rattle.job_steps.specs.Frames.{IsSettled, Stands, StandAll, next_line}
use Rattle.job_steps.specs.Motions.{operand_count, stack_after}
use Rattle.job_steps.specs.States.{Task, Active, State, Callee, callee_named, first_state}
use Rattle.job_steps.specs.Steps.{Progress, Running, Over, Stuck, next_item, calls_after, question_of, flag_of}
use Rattle.job_steps.specs.Steps.{words_at, progress_past}

-- the limits; the cells, of which each names the vector of an entry, the top first; the frames, the innermost first;
-- and
-- what was used so far
pub record TrackState (C : Type 0) : Type 0 where
  pub limits : Limits
  pub cells : List C
  pub frames : List Frame
  pub executed : ℕ
  pub peak : ℕ

-- there is room for all the cells and frames that the limits let a job have
pub record HasLimits (limits : Limits) (cells frames : ℕ) : Type 0 where
  pub cells_are : cells ≡ limits.cells
  pub frames_are : frames ≡ limits.calls

abbrev pub functions_of : TypedProgram → List Function
functions_of verified = verified.program.functions

-- Nothing is done, within these limits, and the frames are at the first calls of the program, at the line that is
-- executed first.
pub record IsFirst {C : Type 0} (verified : TypedProgram) (within : Limits) (t : TrackState C) : Type 0 where
  pub limits : t.limits ≡ within
  pub cells : t.cells ≡ []
  pub executed : t.executed ≡ 0
  pub peak : t.peak ≡ 0
  pub frames : StandAll (functions_of verified) t.frames (first_state verified).calls
  pub settled : IsSettled (functions_of verified) t.frames

-- the entries that an instruction takes are there
abbrev pub IsDeep : Op → ℕ → Type 0
IsDeep (Move motion lower upper) depth = lower + upper ≤ depth
IsDeep op depth = operand_count op ≤ depth

-- the function that a CALL names is there, and so is room for one call more
abbrev pub CanCall : TypedProgram → Item → (active room : ℕ) → Type 0
CanCall verified (Call name) active room =
    (callee : Callee) × (callee_named verified name ≡ Some callee) × (active < room)
CanCall verified item active room = Unit {0}

-- the call of a function, of which nothing is done
abbrev pub first_call : Callee → Active
first_call callee = record { rest = callee.function.body; ret = callee.function.ret }

-- a frame is at a CALL of this function
pub record IsCallOf (verified : TypedProgram) (frame : Frame) (name : List ℕ) (callee : Callee) : Type 0 where
  pub call : Active
  pub stands : Stands (functions_of verified) frame call
  pub next : (next_line call).item ≡ code_item.Do (Call name)
  pub is : callee_named verified name ≡ Some callee

-- A call is active whose next instruction is this one without its list or name, and can be followed if there is room
-- for `room` frames. What remains of the call is a proper body, in which each IF is a choice of two bodies.
pub record CanFollow (verified : TypedProgram) (op : Op) (frames : List Frame) (room : ℕ) : Type 0 where
  pub call : Active
  pub outer : List Active
  pub stands : StandAll (functions_of verified) frames (call ∷ outer)
  pub op_is : op_of (next_item call).item ≡ op
  pub proper : IsProperBody call.rest
  pub called : CanCall verified (next_item call).item (length frames) room

-- the frames are at the calls after the next instruction, which has this flow, whichever calls they were at
abbrev pub Follow : TypedProgram → Flow → List Frame → List Frame → Type 0
Follow verified flow old new =
    (call : Active) (outer : List Active) → StandAll (functions_of verified) old (call ∷ outer) →
    StandAll (functions_of verified) new (calls_after verified (choice flow) call.rest call.ret outer)

-- the instruction is executed, with these results and these words held and needed
pub record Advances {C : Type 0} (verified : TypedProgram) (op : Op) (flow : Flow) (results : List C) (words : ℕ)
    (old new : TrackState C) : Type 0 where
  pub limits : new.limits ≡ old.limits
  pub cells : new.cells ≡ stack_after op results old.cells
  pub frames : Follow verified flow old.frames new.frames
  pub executed : new.executed ≡ old.executed + 1
  pub peak : new.peak ≡ max old.peak words

-- ---- tracks and states

-- the track is at the state of a running job, but for what its cells name
pub record IsAt {C : Type 0} (task : Task) (t : TrackState C) (s : State) : Type 0 where
  pub limits : t.limits ≡ task.limits
  pub cells : length t.cells ≡ length s.stack
  pub frames : StandAll (functions_of task.verified) t.frames s.calls
  pub executed : t.executed ≡ s.executed
  pub peak : t.peak ≡ s.peak

-- the track is that of a job that has returned, after these instructions and with this peak
pub record IsThrough {C : Type 0} (t : TrackState C) (executed peak : ℕ) : Type 0 where
  pub frames : t.frames ≡ []
  pub executed_is : t.executed ≡ executed
  pub peak_is : t.peak ≡ peak

abbrev pub IsWhere : {C : Type 0} → Task → TrackState C → Progress → Type 0
IsWhere task t (Running s) = IsAt task t s
IsWhere task t (Over ending executed peak) = IsThrough t executed peak
IsWhere task t Stuck = ⊥

-- A track that is at a job's state, and is advanced by the job's next instruction, is at the job's state after it.
abbrev pub EachTrackFollows : Type 0 → Type 0
EachTrackFollows C =
    (task : Task) (t u : TrackState C) (s : State) (call : Active) (outer : List Active) (results : List C) →
    IsAt task t s → s.calls ≡ call ∷ outer →
    IsDeep (op_of (next_item call).item) (length s.stack) →
    length results ≡ length (result_kinds (op_of (next_item call).item)) →
    Advances task.verified (op_of (next_item call).item) (flow_of (question_of (next_item call).item s.stack)) results
    (words_at task.rule (next_item call).item s) t u →
    IsWhere task u (progress_past task.rule (next_item call).item s
    (calls_after task.verified (flag_of (question_of (next_item call).item s.stack)) call.rest call.ret outer))
