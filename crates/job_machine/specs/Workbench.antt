-- Where the jobs' steps are computed, and when that fits a machine.
use Rattle.std.specs.Prelude.{◌≡◌, ℕ, zero, suc, false, List, length, slice_set, Option, Some, None}
use Rattle.job_steps.specs.Standings.{Standing, of_job}
use Rattle.job_steps.specs.States.{Task}
use Rattle.job_slots.specs.declared.answer.Begun.{Begun}
use Rattle.job_slots.specs.declared.answer.Begun.TheVariants as begun
use Rattle.job_slots.specs.Answers.{Fits, is_in_flight}
use Rattle.job_machine.specs.declared.workbench.Workplace.{Workplace}
use Rattle.job_machine.specs.declared.workbench.Workplace.TheVariants as workplace
use Rattle.job_machine.specs.Machines.{MachineState}

-- the workbench with another workplace for the job of a number
abbrev pub with_workplace : {A : Type 0} → ℕ → Workplace A → List (Workplace A) → List (Workplace A)
with_workplace zero workplace workbench = workbench
with_workplace (suc place) workplace workbench = slice_set workbench place workplace

-- what of the workplace of a job is taken, which is so: then the workplace is empty; else it is otherwise, and nothing
-- changes
abbrev pub Takes : {A T : Type 0} → (T → Workplace A) → ℕ → (old new : List (Workplace A)) → Option T → Type 0
Takes {T = T} of job old new (Some taken) =
    (of_job job old ≡ Some (of taken)) × (new ≡ with_workplace job workplace.Empty old)
Takes of job old new None = ((taken : _) → of_job job old ≡ Some (of taken) → ⊥) × (new ≡ old)

-- the workplace after a begin
abbrev pub workplace_after : {A : Type 0} → Begun A → Workplace A
workplace_after (begun.Began ticket) = workplace.Holds ticket
workplace_after (begun.Ended desk) = workplace.Free desk
workplace_after (begun.NotReady desk) = workplace.Free desk
workplace_after (begun.SmallDesk desk) = workplace.Free desk

-- A job of that standing has a desk of its words, or, if a step of it has begun, that step, on a desk of its words.
abbrev pub WorkplaceFits : {A : Type 0} → ℕ → Task → Standing → Workplace A → Type 0
WorkplaceFits job task standing (workplace.Free desk) = (desk ≡ task.limits.words) × (is_in_flight standing ≡ false)
WorkplaceFits job task standing (workplace.Holds filled) =
    (filled.job ≡ job) × (filled.words ≡ task.limits.words) × Fits task standing filled
WorkplaceFits job task standing workplace.Empty = ⊥

-- there is a job of this number, and the workplace fits it
pub record FitsIn {A : Type 0} (m : MachineState) (job : ℕ) (workplace : Workplace A) : Type 0 where
  pub task : Task
  pub standing : Standing
  pub task_is : of_job job m.tasks ≡ Some task
  pub standing_is : of_job job m.standings ≡ Some standing
  pub fits : WorkplaceFits job task standing workplace

-- there are as many workplaces as jobs, and each fits its job
pub record WorkbenchFits {A : Type 0} (m : MachineState) (workbench : List (Workplace A)) : Type 0 where
  pub count : length workbench ≡ length m.tasks
  pub each : (job : ℕ) (workplace : Workplace A) → of_job job workbench ≡ Some workplace → FitsIn m job workplace
