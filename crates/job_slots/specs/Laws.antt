-- The laws of slots, as the public module `laws` promises them.
use Rattle.std.specs.Prelude.{◌≡◌, ◌≢◌, ℕ, ◌≤◌, None, map}
use Rattle.vcode_base.specs.declared.rule.Rule.{Rule}
use Rattle.refcounts.specs.SharedState.{empty_slot, slot_in, slot_at, blocks_in, IsTidy, SharedState, AreLive}
use Rattle.job_memory.specs.JobBlocks.{JobBlocks, IsJob, ChangesOnlyOf, grant_of, own_slots, held_words}
use Rattle.job_steps.specs.EventLaws.{StandsOnRun}
use Rattle.job_steps.specs.Runs.{state_after}
use Rattle.job_steps.specs.Standings.{Live, held_by, executed_at, peak_at, outcome_at}
use Rattle.job_steps.specs.States.{JobValue, Task, State, ruled, words_of}
use Rattle.job_steps.specs.Steps.{Running}
use Rattle.job_steps.specs.Tracks.{TrackState, IsAt}
use Rattle.job_slots.specs.Slots.{SlotState, Shows, IsNewSlot, standing_of, told_outcome, recalled_slot}

-- what a slot shows: it is on its run alone, and its counts and its blocks' words are those of its standing
pub record IsShown (number : ℕ) (blocks : JobBlocks) (task : Task) (slot : SlotState) : Type 0 where
  pub stands : StandsOnRun task (standing_of slot)
  pub executed : slot.trace.executed ≡ executed_at task (standing_of slot)
  pub peak_is : slot.trace.peak ≡ peak_at task (standing_of slot)
  pub held : held_words number blocks ≡ held_by task (standing_of slot)
  pub outcome_is : told_outcome slot ≡ outcome_at task (standing_of slot)
  pub few : blocks_in (own_slots number blocks) ≤ task.limits.cells

abbrev pub ShownIsAlone : Type 0
ShownIsAlone = (number : ℕ) (blocks : JobBlocks) (task : Task) (slot : SlotState) → IsTidy blocks.memory
    → Shows number blocks task slot → IsShown number blocks task slot

-- what changes another job's blocks and grant alone leaves what a slot shows
abbrev pub OthersAreShown : Type 0
OthersAreShown = (number other : ℕ) (old new : JobBlocks) (task : Task) (slot : SlotState)
    → ChangesOnlyOf other old new → other ≢ number → Shows number old task slot → Shows number new task slot

-- a new slot of a job that has neither a grant nor a block, by whichever rule it runs
abbrev pub NewIsShown : Type 0
NewIsShown = (rule : Rule) (number : ℕ) (blocks : JobBlocks) (job : JobValue) (slot : SlotState) → IsNewSlot job slot
    → IsJob blocks number → grant_of blocks number ≡ None → ((id : ℕ)
    → slot_in (own_slots number blocks) id ≡ empty_slot)
    → Shows number blocks (ruled rule job) slot

abbrev pub RecalledIsShown : Type 0
RecalledIsShown = (number : ℕ) (blocks : JobBlocks) (task : Task) (slot : SlotState) → Shows number blocks task slot
    → Shows number blocks task (recalled_slot slot)

-- the blocks that a slot's cells name are there
abbrev pub ShownAreLive : Type 0
ShownAreLive = (number : ℕ) (blocks : JobBlocks) (task : Task) (slot : SlotState) → Shows number blocks task slot
    → AreLive blocks.memory slot.trace.cells

-- the track is at the state, and its cells name blocks of the words that the entries have
pub record IsPicture (memory : SharedState) (task : Task) (t : TrackState ℕ) (s : State) : Type 0 where
  pub at : IsAt task t s
  pub words : map (λ id. (slot_at memory id).words) t.cells ≡ words_of s.stack

-- the slot of a live job is at the state that the job reaches alone
abbrev pub ShownAreReached : Type 0
ShownAreReached = (number : ℕ) (blocks : JobBlocks) (task : Task) (slot : SlotState) → Shows number blocks task slot
    → (count : ℕ) → standing_of slot ≡ Live count → (s : State) → state_after task count ≡ Running s
    → IsPicture blocks.memory task slot.trace s
