-- What an instruction that is executed does to a job's blocks, and what counts as held meanwhile.
use Rattle.std.specs.Prelude.{◌≡◌, ℕ, ℤ, ◌<◌, max, List, length, drop}
use Rattle.vcode_base.specs.declared.op.Op.{Op}
use Rattle.vcode_base.specs.declared.op.Op.TheVariants.{Move}
use Rattle.vcode_base.specs.declared.op.StackMove.TheVariants.{Copy, Pop, MoveToTop}
use Rattle.vcode_base.specs.declared.rule.Rule.{Rule}
use Rattle.vcode_base.specs.declared.rule.Rule.TheVariants.{First, Second}
use Rattle.refcounts.specs.SharedState.{empty_slot, slot_at, state_after_shares, state_after_releases, AreLive}
use Rattle.job_steps.specs.Motions.{top_entries, operand_count}
use Rattle.job_memory.specs.JobBlocks.{JobBlocks, AreOwn, held_words, with_memory, with_block}

-- the blocks of the lower entries of a motion, from the bottom up
abbrev pub moved_ids : ℕ → ℕ → List ℕ → List ℕ
moved_ids lower upper ids = top_entries lower (drop upper ids)

-- the blocks that an instruction takes off the stack, from the bottom up
abbrev pub taken_ids : Op → List ℕ → List ℕ
taken_ids op ids = top_entries (operand_count op) ids

-- the blocks with a reference less for each time that a number is listed
abbrev pub with_releases : List ℕ → JobBlocks → JobBlocks
with_releases ids blocks = with_memory blocks (state_after_releases blocks.memory ids)

-- The blocks with a reference more for each entry that the instruction copies, and one less for each that it takes off
-- the
-- stack, whose cells name the blocks of these numbers, the top first.
abbrev pub blocks_after_taking : Op → List ℕ → JobBlocks → JobBlocks
blocks_after_taking (Move Copy lower upper) ids blocks =
    with_memory blocks (state_after_shares blocks.memory (moved_ids lower upper ids))
blocks_after_taking (Move Pop lower upper) ids blocks = with_releases (moved_ids lower upper ids) blocks
blocks_after_taking (Move MoveToTop lower upper) ids blocks = blocks
blocks_after_taking op ids blocks = with_releases (taken_ids op ids) blocks

-- what the release or the sharing of these blocks requires
abbrev pub CanTake : ℕ → Op → List ℕ → JobBlocks → Type 0
CanTake job (Move Copy lower upper) ids blocks = AreLive blocks.memory (moved_ids lower upper ids)
CanTake job (Move Pop lower upper) ids blocks = AreOwn job blocks (moved_ids lower upper ids)
CanTake job (Move MoveToTop lower upper) ids blocks = Unit {0}
CanTake job op ids blocks = AreOwn job blocks (taken_ids op ids)

-- ---- by the rule

-- the blocks that count beside the results of an instruction with these operands
abbrev pub blocks_beside : Rule → List ℕ → JobBlocks → JobBlocks
blocks_beside First taken blocks = blocks
blocks_beside Second taken blocks = with_releases taken blocks

-- the words that count as held while an instruction's results are made
abbrev pub held_under : Rule → ℕ → Op → List ℕ → JobBlocks → ℕ
held_under rule job op ids blocks = held_words job (blocks_beside rule (taken_ids op ids) blocks)

-- words that count at an instruction as those that are held and needed do: the peak is the same with either
abbrev pub CountsAs : (needed peak words : ℕ) → Type 0
CountsAs needed peak words = max peak words ≡ max peak needed

-- The blocks with a new one of these words, and a reference less to each of these operands. The releases come after
-- it, as by the first rule, or before it, as by the second. Which form they have is not for the rule to say: a block
-- that goes may give its number to the new one under both.
abbrev pub with_exchange : Rule → ℕ → List ℕ → ℕ → List ℤ → JobBlocks → JobBlocks
with_exchange First job taken id words blocks = with_releases taken (with_block blocks job id words)
with_exchange Second job taken id words blocks = with_block (with_releases taken blocks) job id words

-- a new block of a job came in the place of these operands
pub record IsExchanged (rule : Rule) (job : ℕ) (taken : List ℕ) (id : ℕ) (words : List ℤ) (old new : JobBlocks) : Type 0
  where
    pub within : id < length old.memory.slots
    pub free : slot_at (blocks_beside rule taken old).memory id ≡ empty_slot
    pub exchanged : new ≡ with_exchange rule job taken id words old
