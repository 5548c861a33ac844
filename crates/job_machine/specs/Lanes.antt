-- Jobs that run by themselves, and when a machine takes over their ends.
use Rattle.std.specs.Prelude.{◌≡◌, ℕ, ◌+◌, ◌≤◌, Bool, true, false, List, [], length, Option, Some, None, All, refl}
use Rattle.std.specs.Coded.{Coded, code_by, coded_ℕ, coded×, coded_option}
use Rattle.vcode_base.specs.declared.limits.TheConstants.{MOST_CELLS}
use Rattle.vcode_base.specs.declared.rule.Rule.{Rule}
use Rattle.refcounts.specs.SharedState.{empty_slot, slot_in, block_count, blocks_in}
use Rattle.job_memory.specs.JobBlocks.{JobBlocks, IsJob, grant_of, granted_words, own_slots}
use Rattle.job_steps.specs.Runs.{outcome, executed_count, peak}
use Rattle.job_steps.specs.Standings.{Waiting, Collected, of_job, with_standing}
use Rattle.job_steps.specs.States.{JobValue, Task}
use Rattle.job_slots.specs.declared.status.Status.TheVariants as status
use Rattle.job_slots.specs.Slots.{SlotState}
use Rattle.job_machine.specs.Machines.{MachineState, task_code, with_queue}

-- a job's number, and the job of that number, if there is one
pub record EndedState : Type 0 where
  pub job : ℕ
  pub task : Option Task

-- it is identified by both
abbrev pub ended_code : Coded Rule → Coded JobValue → Coded EndedState
ended_code rule job =
    code_by (ℕ × Option Task) (coded× coded_ℕ (coded_option (task_code rule job))) (λ e. (e.job, e.task))
    (λ p. record { job = p.0; task = p.1 }) (λ _. refl)

-- ---- a lane

-- there is one job, without a grant and without a block
pub record IsVacant (blocks : JobBlocks) : Type 0 where
  pub is_job : IsJob blocks 1
  pub no_grant : grant_of blocks 1 ≡ None
  pub nothing_granted : granted_words blocks ≡ 0
  pub no_block : (id : ℕ) → slot_in (own_slots 1 blocks) id ≡ empty_slot
  pub counted : block_count blocks.memory ≡ blocks_in (own_slots 1 blocks)

-- there is no job in the region, and region and desk are large enough for each
pub record IsLane (tasks : List Task) (blocks : JobBlocks) (desk : ℕ) : Type 0 where
  pub vacant : IsVacant blocks
  pub numbers : length blocks.memory.slots ≡ MOST_CELLS + 2
  pub room : All (λ task. task.limits.words ≤ blocks.memory.room) tasks
  pub enough : All (λ task. task.limits.words ≤ desk) tasks

-- ---- an end

-- the slot of a job that is collected, and has no block
pub record IsEndOf (task : Task) (slot : SlotState) : Type 0 where
  pub collected : slot.status ≡ status.Collected
  pub limits : slot.trace.limits ≡ task.limits
  pub executed : slot.trace.executed ≡ executed_count task
  pub peak_is : slot.trace.peak ≡ peak task
  pub stored : slot.outcome ≡ Some (outcome task)
  pub no_cell : slot.trace.cells ≡ []

-- the slot is that of the job of this number
pub record IsEndIn (job : ℕ) (tasks : List Task) (slot : SlotState) : Type 0 where
  pub task : Task
  pub task_is : of_job job tasks ≡ Some task
  pub end : IsEndOf task slot

-- the machine has that job, and it waits
pub record CanAdopt (m : MachineState) (ended : EndedState) : Type 0 where
  pub same : of_job ended.job m.tasks ≡ ended.task
  pub waits : of_job ended.job m.standings ≡ Some Waiting

-- the machine with a job collected, if it was adopted
abbrev pub after_adoption : Bool → ℕ → MachineState → MachineState
after_adoption true job m =
    with_queue m (record { standings = with_standing job Collected m.standings; passes = m.passes })
after_adoption false job m = m
