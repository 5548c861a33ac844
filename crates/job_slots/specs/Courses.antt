-- How a job goes on after a turn, in which it executed an instruction, or passed over an ELSE or an ENDIF.
use Rattle.std.specs.Prelude.{◌≡◌, ℕ, Bool, true, false}
use Rattle.vcode_base.specs.declared.op.Op.{Op}
use Rattle.vcode_reader.specs.Trees.{Function}
use Rattle.job_memory.specs.JobBlocks.{JobBlocks}
use Rattle.job_steps.specs.Flows.{IsWithin}
use Rattle.job_steps.specs.Frames.{function_in, is_passing}
use Rattle.job_steps.specs.States.{Task}
use Rattle.job_slots.specs.Answers.{TakesStep}
use Rattle.job_slots.specs.declared.course.Course.{Course}
use Rattle.job_slots.specs.declared.course.Course.TheVariants.{Within, Across, Settled, Over}
use Rattle.job_slots.specs.declared.status.Status.TheVariants as status
use Rattle.job_slots.specs.Slots.{SlotState, Shows}

-- the innermost call is of the function that it was of
abbrev pub SameFunction : (old new : SlotState) → Type 0
SameFunction old new = function_in new.trace.frames ≡ function_in old.trace.frames

-- so it is after an instruction that neither calls nor returns
abbrev pub Stays : Op → (old new : SlotState) → (goes_on : Bool) → Type 0
Stays op old new goes_on = IsWithin op → goes_on ≡ true → SameFunction old new

-- The job has executed nothing, and its innermost call, which is of this function, is passed on from an ELSE or an
-- ENDIF to the line of its next instruction.
pub record IsPassedOn (number : ℕ) (task : Task) (f : Function) (old : SlotState) (before : JobBlocks)
    (new : SlotState) (blocks : JobBlocks) : Type 0 where
  pub was : is_passing f old.trace.frames ≡ true
  pub shows : Shows number blocks task new
  pub live : new.status ≡ status.Live
  pub same_count : new.trace.executed ≡ old.trace.executed
  pub stays : SameFunction old new
  pub same_blocks : blocks ≡ before

-- a turn leads a job, whose innermost call is of this function, to this slot, and its blocks to these
abbrev pub Turns : Course → ℕ → Task → Function → SlotState → JobBlocks → SlotState → JobBlocks → Type 0
Turns Within number task f old before new blocks =
    TakesStep number task old.trace.executed before new blocks true × SameFunction old new
Turns Across number task f old before new blocks = TakesStep number task old.trace.executed before new blocks true
Turns Settled number task f old before new blocks = IsPassedOn number task f old before new blocks
Turns Over number task f old before new blocks = TakesStep number task old.trace.executed before new blocks false
