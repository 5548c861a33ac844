-- A block of a job that was placed, or written over, with words that something wrote.
use Rattle.std.specs.Prelude.{◌≡◌, ℕ, ℤ, ◌<◌, List, length}
use Rattle.refcounts.specs.SharedState.{empty_slot, slot_at}
use Rattle.job_memory.specs.JobBlocks.{JobBlocks, with_block}

-- a number that had no block has one of the job and of this length, whose words have this property
pub record IsPlacedWith (old new : JobBlocks) (job id len : ℕ) (is : List ℤ → Type 0) : Type 0 where
  pub words : List ℤ
  pub in_range : id < length old.memory.slots
  pub empty : slot_at old.memory id ≡ empty_slot
  pub long : length words ≡ len
  pub so : is words
  pub placed : new ≡ with_block old job id words

-- the block of a number has other words, as many as before, which have this property; else the blocks are these
pub record IsRewrittenWith (old rest new : JobBlocks) (job id : ℕ) (is : List ℤ → Type 0) : Type 0 where
  pub words : List ℤ
  pub same_length : length words ≡ length (slot_at old.memory id).words
  pub so : is words
  pub rewritten : new ≡ with_block rest job id words
