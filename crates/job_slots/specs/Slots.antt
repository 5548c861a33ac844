-- When a job's slot, with the blocks that the job owns, shows the place of the job in its run alone.
use Rattle.std.specs.Prelude.{◌≡◌, ℕ, ◌+◌, ◌-◌, ◌≤◌, List, length, reverse, Option, Some, None}
use Rattle.vcode_base.specs.declared.outcome.Outcome.{Outcome}
use Rattle.vcode_base.specs.declared.outcome.Outcome.TheVariants.{Returned}
use Rattle.refcounts.specs.SharedState as shared
use Rattle.job_memory.specs.JobBlocks.{JobBlocks, IsJob, ChangesOnlyOf, grant_of, own_slots}
use Rattle.job_steps.specs.EventLaws.{IsVerified}
use Rattle.job_steps.specs.Events.{early_end}
use Rattle.job_steps.specs.Reached.{IsVerifiedBySome}
use Rattle.job_steps.specs.Runs.{state_after, outcome, executed_count, peak}
use Rattle.job_steps.specs.Standings.{Standing, Waiting, Live, InFlight, Ended, Collected, held_in, left_words}
use Rattle.job_steps.specs.States.{Vector, JobValue, Task, StackEntry, State, values_of, held_words}
use Rattle.job_steps.specs.Steps.{Progress, Running, Over, Stuck}
use Rattle.job_steps.specs.Frames.{IsSettled}
use Rattle.job_steps.specs.Tracks.{TrackState, IsFirst, IsAt, IsThrough, functions_of}
use Rattle.job_slots.specs.declared.status.Status.{Status}
use Rattle.job_slots.specs.declared.status.Status.TheVariants as status
use Rattle.job_slots.specs.Holdings.{HoldStack, HoldSomeStack, HoldNothing}

-- the place of a job in its run, and how it ended, once that is known
pub record SlotState : Type 0 where
  pub status : Status
  pub trace : TrackState ℕ
  pub outcome : Option (Outcome (List Vector))

-- the standing of a job of this status after n instructions
abbrev pub standing_by : Status → ℕ → Standing
standing_by status.Waiting n = Waiting
standing_by status.Live n = Live n
standing_by status.InFlight n = InFlight n
standing_by status.Ended n = Ended
standing_by status.Collected n = Collected

abbrev pub standing_of : SlotState → Standing
standing_of slot = standing_by slot.status slot.trace.executed

-- the status of a job of that standing
abbrev pub status_of : Standing → Status
status_of Waiting = status.Waiting
status_of (Live n) = status.Live
status_of (InFlight n) = status.InFlight
status_of Ended = status.Ended
status_of Collected = status.Collected

-- ---- by its status

-- the job runs, the cells hold its stack, and the track is at the line of its next instruction
pub record IsRunningSlot (slots : List shared.Slot) (task : Task) (t : TrackState ℕ) : Type 0 where
  pub state : State
  pub running : state_after task t.executed ≡ Running state
  pub at : IsAt task t state
  pub holds : HoldStack slots t.cells state.stack
  pub settled : IsSettled (functions_of task.verified) t.frames

-- and nothing ends it before the values of its next instruction are looked at
pub record IsFlyingSlot (slots : List shared.Slot) (task : Task) (t : TrackState ℕ) : Type 0 where
  pub run : IsRunningSlot slots task t
  pub goes_on : early_end task run.state ≡ None

-- the job has returned, and the cells hold its results
pub record HasReturned (slots : List shared.Slot) (task : Task) (t : TrackState ℕ) : Type 0 where
  pub stack : List StackEntry
  pub outcome_is : outcome task ≡ Returned (reverse (values_of stack))
  pub left : left_words task (outcome task) ≡ held_words stack
  pub holds : HoldStack slots t.cells stack

-- the job returned
abbrev pub IsReturned : Outcome (List Vector) → Type 0
IsReturned (Returned values) = Unit {0}
IsReturned ending = ⊥

-- what a job that has ended leaves until it is collected: its results, or its ending, which is no return
abbrev pub Leaves : List shared.Slot → Task → TrackState ℕ → Option (Outcome (List Vector)) → Type 0
Leaves slots task t None = HasReturned slots task t
Leaves slots task t (Some ending) =
    (outcome task ≡ ending) × (IsReturned ending → ⊥) × HoldNothing slots t.cells

pub record HasEnded (slots : List shared.Slot) (task : Task) (t : TrackState ℕ) (o : Option (Outcome (List Vector)))
    : Type 0 where
  pub executed : t.executed ≡ executed_count task
  pub peak_is : t.peak ≡ peak task
  pub leaves : Leaves slots task t o

pub record IsCollectedSlot (slots : List shared.Slot) (task : Task) (t : TrackState ℕ)
    (o : Option (Outcome (List Vector))) : Type 0 where
  pub executed : t.executed ≡ executed_count task
  pub peak_is : t.peak ≡ peak task
  pub stored : o ≡ Some (outcome task)
  pub nothing : HoldNothing slots t.cells

pub record IsWaitingSlot (slots : List shared.Slot) (task : Task) (t : TrackState ℕ) : Type 0 where
  pub first : IsFirst task.verified task.limits t
  pub nothing : HoldNothing slots t.cells

abbrev pub ShowsAs : List shared.Slot → Task → TrackState ℕ → Option (Outcome (List Vector)) → Status → Type 0
ShowsAs slots task t o status.Waiting = IsWaitingSlot slots task t
ShowsAs slots task t o status.Live = IsRunningSlot slots task t
ShowsAs slots task t o status.InFlight = IsFlyingSlot slots task t
ShowsAs slots task t o status.Ended = HasEnded slots task t o
ShowsAs slots task t o status.Collected = IsCollectedSlot slots task t o

-- the grant of a job of this status
abbrev pub grant_by : Task → Status → Option ℕ
grant_by task status.Waiting = None
grant_by task status.Live = Some task.limits.words
grant_by task status.InFlight = Some task.limits.words
grant_by task status.Ended = Some task.limits.words
grant_by task status.Collected = None

-- The job of a number, which is of this task, has the grant of its status, and its blocks and its slot show its run
-- alone.
pub record Shows (number : ℕ) (blocks : JobBlocks) (task : Task) (slot : SlotState) : Type 0 where
  pub is_job : IsJob blocks number
  pub verified : IsVerified task
  pub limits : slot.trace.limits ≡ task.limits
  pub grant : grant_of blocks number ≡ grant_by task slot.status
  pub shown : ShowsAs (own_slots number blocks) task slot.trace slot.outcome slot.status

-- ---- after an instruction

-- The track and the blocks are at the job's state: it runs, and the cells hold its stack; or it has returned, and they
-- hold what was its stack before.
abbrev pub IsAfter : List shared.Slot → Task → TrackState ℕ → Progress → Type 0
IsAfter slots task t (Running s) = IsAt task t s × HoldStack slots t.cells s.stack
IsAfter slots task t (Over ending executed peak) =
    IsThrough t executed peak
    × ((stack : List StackEntry) × (ending ≡ Returned (reverse (values_of stack)))
    × (held_words stack ≡ held_in (state_after task (executed - 1))) × HoldStack slots t.cells stack)
IsAfter slots task t Stuck = ⊥

-- The job, which is live, goes on after an instruction: it has its grant, and its cells hold its stack. Its track may
-- be at an ELSE or ENDIF, which is passed over before the next instruction.
pub record GoesOn (number : ℕ) (blocks : JobBlocks) (task : Task) (slot : SlotState) : Type 0 where
  pub is_job : IsJob blocks number
  pub verified : IsVerified task
  pub grant : grant_of blocks number ≡ Some task.limits.words
  pub live : slot.status ≡ status.Live
  pub state : State
  pub running : state_after task slot.trace.executed ≡ Running state
  pub at : IsAt task slot.trace state
  pub holds : HoldStack (own_slots number blocks) slot.trace.cells state.stack

-- ---- new slots

-- a job that waits, at the first line of its MAIN
pub record IsNewSlot (job : JobValue) (slot : SlotState) : Type 0 where
  pub status_is : slot.status ≡ status.Waiting
  pub verified : IsVerifiedBySome job.verified
  pub first : IsFirst job.verified job.limits slot.trace

abbrev pub told_by : Status → Option (Outcome (List Vector)) → Option (Outcome (List Vector))
told_by status.Collected o = o
told_by _ o = None

-- it runs, with or without a step that has begun
abbrev pub IsActive : Status → Type 0
IsActive status.Live = Unit {0}
IsActive status.InFlight = Unit {0}
IsActive _ = ⊥

-- how the job ended, if it is collected
abbrev pub told_outcome : SlotState → Option (Outcome (List Vector))
told_outcome slot = told_by slot.status slot.outcome

-- a job that runs has its grant, and its cells hold its blocks, whatever words these have
pub record MayEnd (number : ℕ) (blocks : JobBlocks) (task : Task) (slot : SlotState) : Type 0 where
  pub is_job : IsJob blocks number
  pub verified : IsVerified task
  pub limits : slot.trace.limits ≡ task.limits
  pub grant : grant_of blocks number ≡ Some task.limits.words
  pub holds : HoldSomeStack (own_slots number blocks) slot.trace.cells

abbrev pub recalled_status : Status → Status
recalled_status status.InFlight = status.Live
recalled_status s = s

-- the slot with a step given up that has begun
abbrev pub recalled_slot : SlotState → SlotState
recalled_slot slot = record {
  status = recalled_status slot.status;
  trace = slot.trace;
  outcome = slot.outcome;
}

-- ---- a run

-- wherever the job leads from these blocks, there are numbers for two blocks more
abbrev pub HasNumbersOnRun : ℕ → Task → JobBlocks → Type 0
HasNumbersOnRun number task old =
    (new : JobBlocks) (slot : SlotState) → ChangesOnlyOf number old new → Shows number new task slot →
    shared.IsTidy new.memory → shared.block_count new.memory + 2 ≤ length new.memory.slots
