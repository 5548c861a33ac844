-- When a machine is sound.
use Rattle.std.specs.Prelude.{◌≡◌, ℕ, zero, suc, ◌+◌, ◌≤◌, List, length, map, sum_by, slice_get, Some, All}
use Rattle.vcode_base.specs.declared.limits.TheConstants.{MOST_JOBS, MOST_WORDS}
use Rattle.refcounts.specs.SharedState.{used_words, block_count, blocks_in}
use Rattle.job_memory.specs.JobBlocks.{JobBlocks, own_slots, held_words}
use Rattle.job_steps.specs.Standings.{Standing, AreFew}
use Rattle.job_steps.specs.States.{Task}
use Rattle.job_slots.specs.Slots.{SlotState, Shows, standing_of}

-- the sum of a number of each of the jobs 1, 2 and so on
abbrev pub sum_to : ℕ → (ℕ → ℕ) → ℕ
sum_to zero f = 0
sum_to (suc n) f = sum_to n f + f (suc n)

abbrev pub standings_of : List SlotState → List Standing
standings_of slots = map standing_of slots

-- Each job's blocks and slot show where its run alone stands; all blocks are those of the jobs, and there is a number
-- for
-- each block that the jobs' cells can name, and for two more. Each job was passed by few times.
pub record IsSound (blocks : JobBlocks) (tasks : List Task) (slots : List SlotState) (passes : List ℕ) : Type 0 where
  pub jobs : length blocks.grants ≡ length tasks
  pub slots_are : length slots ≡ length tasks
  pub passes_are : length passes ≡ length tasks
  pub few_passes : AreFew passes
  pub few : length tasks ≤ MOST_JOBS
  pub least : 1 ≤ blocks.memory.room
  pub most : blocks.memory.room ≤ MOST_WORDS
  pub fitting : All (λ task. task.limits.words ≤ blocks.memory.room) tasks
  pub each : (place : ℕ) (task : Task) (slot : SlotState) → slice_get tasks place ≡ Some task →
      slice_get slots place ≡ Some slot → Shows (suc place) blocks task slot
  pub numbers : length blocks.memory.slots ≡ sum_by (λ task. task.limits.cells) tasks + 2
  pub counted : block_count blocks.memory ≡ sum_to (length tasks) (λ job. blocks_in (own_slots job blocks))
  pub used : used_words blocks.memory ≡ sum_to (length tasks) (λ job. held_words job blocks)
