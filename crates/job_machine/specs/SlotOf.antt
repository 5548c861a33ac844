-- What the slot of a job shows, among those of a machine.
use Rattle.std.specs.Prelude.{◌≡◌, ℕ, Option, Some, None}
use Rattle.job_steps.specs.Standings.{of_job, executed_at, peak_at, outcome_at}
use Rattle.job_steps.specs.States.{Task}
use Rattle.job_machine.specs.Machines.{MachineState}
use Rattle.job_slots.specs.Slots.{SlotState, standing_of, told_outcome}

-- there is no job of this number
pub record IsMissing (job : ℕ) (m : MachineState) : Type 0 where
  pub no_task : of_job job m.tasks ≡ None
  pub no_standing : of_job job m.standings ≡ None

-- the slot has the standing of the job of this number, its counts and its outcome
pub record IsSlotOf (job : ℕ) (m : MachineState) (slot : SlotState) : Type 0 where
  pub task : Task
  pub task_is : of_job job m.tasks ≡ Some task
  pub standing_is : of_job job m.standings ≡ Some (standing_of slot)
  pub executed : slot.trace.executed ≡ executed_at task (standing_of slot)
  pub peak_is : slot.trace.peak ≡ peak_at task (standing_of slot)
  pub outcome_is : told_outcome slot ≡ outcome_at task (standing_of slot)

-- the slot of the job of this number, if there is one
abbrev pub IsSlotIn : ℕ → MachineState → Option SlotState → Type 0
IsSlotIn job m None = IsMissing job m
IsSlotIn job m (Some slot) = IsSlotOf job m slot
