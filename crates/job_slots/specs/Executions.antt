-- What holds of the next instruction of a job whose step is in flight: that it can be executed, and the state after it.
use Rattle.std.specs.Prelude.{◌≡◌, ℕ, ℤ, ◌+◌, ◌^◌, ◌<◌, ◌≤◌, List, [], ◌∷◌, length, All}
use Rattle.vcode_base.specs.declared.op.Op.{Op}
use Rattle.vcode_base.specs.declared.op.Op.TheVariants.{Move}
use Rattle.vcode_base.specs.declared.op.StackMove.TheVariants.{Copy}
use Rattle.vcode_base.specs.declared.rule.Rule.{Rule}
use Rattle.vcode_base.specs.Instructions.{op_of}
use Rattle.vcode_base.specs.Kinds.{result_kinds}
use Rattle.vcode_reader.specs.Trees.{Item}
use Rattle.refcounts.specs.SharedState.{IsTidy, block_count, empty_slot, slot_at}
use Rattle.refcounts.specs.Laws.{SharesAreCounted, ReleasesAreCounted, ReleasesKeepBlocks, ReleaseStaysTidy}
use Rattle.job_steps.specs.declared.flow.Flow.{Flow}
use Rattle.job_steps.specs.EventLaws.{IsVerified}
use Rattle.job_steps.specs.Flows.{IsFlowOf}
use Rattle.job_steps.specs.Motions.{depth_after}
use Rattle.job_steps.specs.Runs.{state_after}
use Rattle.job_steps.specs.States.{Task, State}
use Rattle.job_steps.specs.Steps.{held_at}
use Rattle.job_steps.specs.Tracks.{TrackState, IsDeep, CanFollow, Advances}
use Rattle.verifier.specs.Typed.{TypedProgram}
use Rattle.job_slots.specs.declared.commit.Made.{Made}
use Rattle.job_slots.specs.declared.commit.NewBlocks.{NewBlocks}
use Rattle.job_slots.specs.declared.commit.NewBlocks.TheVariants.{Without, One, Two}
use Rattle.job_slots.specs.Answers.{IsAnswered}
use Rattle.job_slots.specs.Commits.{CanTake, CountsAs, IsExchanged, blocks_after_taking, held_under, moved_ids}
use Rattle.job_slots.specs.Commits.{taken_ids}
use Rattle.job_memory.specs.JobBlocks.{JobBlocks, AreOwn, ChangesOnlyOf, HasGrant, grant_of, own_slots, with_block}
use Rattle.job_memory.specs.JobBlocks.{words_of}
use Rattle.job_memory.specs.Laws.{ReleasesChangeOnlyTheirJob, BlocksChangeOnlyTheirJob, SharesChangeOnlyTheirJob}
use Rattle.job_memory.specs.Laws.{ChangesJoin}
use Rattle.job_slots.specs.Holdings.{HoldStack}
use Rattle.job_slots.specs.Slots.{IsFlyingSlot, IsAfter}

-- this is what the next instruction of a job makes, and its words count as those that are held and needed
pub record IsMade (task : Task) (job : ℕ) (blocks : JobBlocks) (t : TrackState ℕ) (made : Made) : Type 0 where
  pub answered : IsAnswered task t.executed made.op made.flow made.first.now made.second.now
  pub counted : CountsAs (held_under task.rule job made.op t.cells blocks + length made.first.now
      + length made.second.now) t.peak made.words

-- the numbers of the blocks of results, from the bottom up
abbrev pub ids_in : NewBlocks → List ℕ
ids_in Without = []
ids_in (One ids) = ids
ids_in (Two ids) = ids

-- each of these blocks may be shared as often as there are some
abbrev pub AreFew : JobBlocks → List ℕ → Type 0
AreFew blocks ids = All (λ id. (slot_at blocks.memory id).count + length ids < 2 ^ 64) ids

-- so may those that the instruction copies
abbrev pub CanShare : Op → List ℕ → JobBlocks → Type 0
CanShare (Move Copy lower upper) ids blocks = AreFew blocks (moved_ids lower upper ids)
CanShare op ids blocks = Unit {0}

-- the instruction can take its operands off the stack, whose cells name the blocks of these numbers, the top first
pub record CanExchange (job : ℕ) (op : Op) (cells : List ℕ) (blocks : JobBlocks) : Type 0 where
  pub deep : IsDeep op (length cells)
  pub own : AreOwn job blocks (taken_ids op cells)
  pub can_take : CanTake job op cells blocks
  pub can_share : CanShare op cells blocks

-- what shares, releases and new blocks do to the blocks of a job
pub record BlockLaws : Type 0 where
  pub shares_are_counted : SharesAreCounted
  pub releases_are_counted : ReleasesAreCounted
  pub releases_keep_blocks : ReleasesKeepBlocks
  pub blocks_change_only_their_job : BlocksChangeOnlyTheirJob
  pub shares_change_only_their_job : SharesChangeOnlyTheirJob
  pub releases_change_only_their_job : ReleasesChangeOnlyTheirJob
  pub changes_join : ChangesJoin
  pub release_stays_tidy : ReleaseStaysTidy

-- the operands of the next instruction are the job's, and what counts as held is that of its run alone
pub record IsCounted (rule : Rule) (job : ℕ) (blocks : JobBlocks) (item : Item) (s : State) (ids : List ℕ) : Type 0
  where
    pub own : AreOwn job blocks (taken_ids (op_of item) ids)
    pub held : held_under rule job (op_of item) ids blocks ≡ held_at rule item s

-- it is at the state if the cells hold the stack
abbrev pub HeldIsCounted : Type 0
HeldIsCounted =
    (rule : Rule) (job : ℕ) (blocks : JobBlocks) (item : Item) (s : State) (ids : List ℕ) →
    HoldStack (own_slots job blocks) ids s.stack → IsTidy blocks.memory → IsCounted rule job blocks item s ids

-- its operands are taken off the stack, and blocks of these numbers have the words of its results
abbrev pub AreExchanged : Rule → ℕ → Op → List ℤ → List ℤ → List ℕ → List ℕ → JobBlocks → JobBlocks → Type 0
AreExchanged rule job op first second cells [] old new = new ≡ blocks_after_taking op cells old
AreExchanged rule job op first second cells (id ∷ []) old new =
    IsExchanged rule job (taken_ids op cells) id first old new
AreExchanged rule job op first second cells (below ∷ top ∷ ids) old new =
    (between : JobBlocks) × IsExchanged rule job (taken_ids op cells) below first old between
    × (top < length between.memory.slots) × (slot_at between.memory top ≡ empty_slot)
    × (new ≡ with_block between job top second)

-- as many of them as the instruction has results
pub record HasExchanged (rule : Rule) (job : ℕ) (op : Op) (first second : List ℤ) (cells ids : List ℕ)
    (old new : JobBlocks) : Type 0 where
  pub given : length ids ≡ length (result_kinds op)
  pub exchanged : AreExchanged rule job op first second cells ids old new

-- the track can go on to what follows the instruction
pub record CanGoPast (verified : TypedProgram) (t : TrackState ℕ) (op : Op) : Type 0 where
  pub unspent : t.executed < t.limits.budget
  pub deep : IsDeep op (length t.cells)
  pub cells : depth_after op (length t.cells) ≤ t.limits.cells
  pub follows : CanFollow verified op t.frames t.limits.calls

-- An instruction that makes this can give its results for its operands: these can be taken off the stack, the job's
-- words have room for the results, and there are numbers for two blocks more.
pub record CanGive (rule : Rule) (job : ℕ) (made : Made) (cells : List ℕ) (blocks : JobBlocks) : Type 0 where
  pub has_grant : HasGrant blocks job
  pub numbers : block_count blocks.memory + 2 ≤ length blocks.memory.slots
  pub room : held_under rule job made.op cells blocks + length made.first.now + length made.second.now
      ≤ words_of (grant_of blocks job)
  pub can_exchange : CanExchange job made.op cells blocks

-- it gave them, in blocks of these numbers, and no grant changed
pub record HasGiven (job : ℕ) (made : Made) (cells ids : List ℕ) (old new : JobBlocks) : Type 0 where
  pub form : Rule
  pub exchanged : HasExchanged form job made.op made.first.now made.second.now cells ids old new
  pub grants : new.grants ≡ old.grants

-- track and blocks are at the job's state after one instruction more, and no other job's blocks changed
pub record IsExecuted (job : ℕ) (old new : JobBlocks) (task : Task) (t u : TrackState ℕ) : Type 0 where
  pub after : IsAfter (own_slots job new) task u (state_after task (t.executed + 1))
  pub others : ChangesOnlyOf job old new

-- The instruction has at most two results, for which the job's words have room. Its operands can be taken off the
-- stack, and the track can go past. If blocks have the results, that executes it.
pub record CanExecute (job : ℕ) (old : JobBlocks) (task : Task) (t : TrackState ℕ) (op : Op) (flow : Flow)
    (first second : List ℤ) : Type 0 where
  pub two : length (result_kinds op) ≤ 2
  pub room : held_under task.rule job op t.cells old + length first + length second ≤ task.limits.words
  pub can_exchange : CanExchange job op t.cells old
  pub goes_past : CanGoPast task.verified t op
  pub flows : IsFlowOf op flow
  pub executes : (form : Rule) (ids : List ℕ) (new : JobBlocks) (u : TrackState ℕ) →
      HasExchanged form job op first second t.cells ids old new →
      Advances task.verified op flow ids (held_under task.rule job op t.cells old + length first + length second) t u →
      IsExecuted job old new task t u

abbrev pub StepsExecute : Type 0
StepsExecute =
    (job : ℕ) (old : JobBlocks) (task : Task) (t : TrackState ℕ) (op : Op) (flow : Flow) (first second : List ℤ) →
    IsFlyingSlot (own_slots job old) task t → IsVerified task → IsTidy old.memory →
    IsAnswered task t.executed op flow first second → CanExecute job old task t op flow first second
