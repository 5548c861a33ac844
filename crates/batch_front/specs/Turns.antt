-- The turns that the jobs of a machine take by a schedule.
use Rattle.std.specs.Prelude.{◌≡◌, ◌≢◌, ℕ, zero, suc, false, List, [], ◌∷◌, length, Option, Some, None}
use Rattle.job_steps.specs.declared.event.Event.TheVariants as event
use Rattle.job_steps.specs.Standings.{of_job, admission}
use Rattle.job_machine.specs.declared.workbench.Workplace.{Workplace}
use Rattle.job_machine.specs.Machines.{MachineState, queue_of, is_over, machine_after}
use Rattle.job_machine.specs.Workbench.{WorkbenchFits}
use Rattle.batch_reader.specs.declared.entry.Fate.{Fate}
use Rattle.batch_reader.specs.declared.entry.Fate.TheVariants.{Ready, Refused}
use Rattle.batch_front.specs.declared.schedule.Item.{Item}
use Rattle.batch_front.specs.declared.schedule.Item.TheVariants.{Step, Begin, Finish}
use Rattle.batch_front.specs.Schedules.{place_of}
use Rattle.batch_front.specs.ReportedJobs.{ReportedJob}

-- ---- between two turns

-- the machine after the first n jobs are collected, as far as they have ended
abbrev pub after_collections : ℕ → MachineState → MachineState
after_collections zero m = m
after_collections (suc n) m = machine_after (event.Collect (suc n)) (after_collections n m)

-- the machine after this number of admissions, as far as a job can be admitted
abbrev pub after_admissions : ℕ → MachineState → MachineState
after_admissions zero m = m
after_admissions (suc n) m = machine_after event.Admit (after_admissions n m)

-- all jobs that have ended are collected, and then as many are admitted as can be
unfoldable pub settled : MachineState → MachineState
settled m = after_admissions (length m.tasks) (after_collections (length m.tasks) m)

-- no job has ended
abbrev pub NoneEnded : MachineState → Type 0
NoneEnded m = (job : ℕ) → is_over (of_job job m.standings) ≡ false

-- no job has ended, and none can be admitted
pub record IsSettled (m : MachineState) : Type 0 where
  pub none_ended : NoneEnded m
  pub none_admitted : admission m.region m.tasks (queue_of m) ≡ None

-- the same, but that this job may have ended
pub record IsSettledBut (job : ℕ) (m : MachineState) : Type 0 where
  pub none_ended : (other : ℕ) → other ≢ job → is_over (of_job other m.standings) ≡ false
  pub none_admitted : admission m.region m.tasks (queue_of m) ≡ None

-- the machine is now the wanted one, which has settled and has the same jobs as before, and the workbench fits it
pub record SettlesAs {A : Type 0} (wanted old new : MachineState) (workbench : List (Workplace A)) : Type 0 where
  pub state : new ≡ wanted
  pub settled : IsSettled new
  pub tasks : new.tasks ≡ old.tasks
  pub fit : WorkbenchFits new workbench

-- ---- turns

abbrev pub fate_number : Fate ℕ → Option ℕ
fate_number (Ready number) = Some number
fate_number (Refused line fault) = None

abbrev pub reported_number : Option ReportedJob → Option ℕ
reported_number None = None
reported_number (Some reported_job) = fate_number reported_job.fate

-- the number on a machine of the job at this place of the batch, if there is one that may run
abbrev pub number_of : List ReportedJob → ℕ → Option ℕ
number_of reported place = reported_number (of_job place reported)

-- the machine after a turn of the job of this number
abbrev pub after_turn : Item → ℕ → MachineState → MachineState
after_turn (Step place) job m = machine_after (event.Finish job) (machine_after (event.Begin job) m)
after_turn (Begin place) job m = machine_after (event.Begin job) m
after_turn (Finish place) job m = machine_after (event.Finish job) m

-- if there is such a job
abbrev pub after_turn_of : Item → Option ℕ → MachineState → MachineState
after_turn_of item None m = m
after_turn_of item (Some job) m = after_turn item job m

-- the machine after an item of a schedule, when it has settled
abbrev pub after_item : List ReportedJob → Item → MachineState → MachineState
after_item reported item m = settled (after_turn_of item (number_of reported (place_of item)) m)

-- after these items, one after another
abbrev pub after_items : List ReportedJob → List Item → MachineState → MachineState
after_items reported [] m = m
after_items reported (item ∷ items) m = after_items reported items (after_item reported item m)

-- the machine after a schedule
abbrev pub after_schedule : List ReportedJob → List Item → MachineState → MachineState
after_schedule reported items m = after_items reported items (settled m)
