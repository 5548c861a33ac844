-- The jobs of a batch on a machine: each by its number there, and what is reported of it when the machine has run out.
use Rattle.std.specs.Prelude.{◌≡◌, ◌+◌, ◌-◌, ◌≤◌, ℕ, Bool, false, if◌then◌else◌, List, [], ◌∷◌, ◌++◌, length, All}
use Rattle.std.specs.Prelude.{Option, Some, None}
use Rattle.std.specs.List.{list_all}
use Rattle.job_steps.specs.Standings.{Collected, of_job}
use Rattle.job_steps.specs.States.{JobValue, Task}
use Rattle.job_machine.specs.Machines.{MachineState}
use Rattle.batch_reader.specs.declared.entry.Batch.{Batch}
use Rattle.batch_reader.specs.declared.entry.Batch.TheVariants.{Refused as BatchRefused, Jobs}
use Rattle.batch_reader.specs.declared.entry.Entry.{Entry}
use Rattle.batch_reader.specs.declared.entry.Fate.{Fate}
use Rattle.batch_reader.specs.declared.entry.Fate.TheVariants.{Ready, Refused}
use Rattle.batch_reader.specs.Fates.{JobEntry}
use Rattle.batch_front.specs.declared.status.Status.{Status}
use Rattle.batch_front.specs.declared.status.Status.TheVariants.{AllReturned, SomeNot}
use Rattle.batch_front.specs.Reports.{TaskEntry, end_text, has_task_returned, job_text, refusal_text, task_text}

-- ---- what is run

-- the task of a job that may run, or its job without the rule
abbrev pub fate_tasks : {T : Type 0} → Fate T → List T
fate_tasks (Ready task) = task ∷ []
fate_tasks (Refused line fault) = []

-- the tasks of the jobs that may run, in their order
abbrev pub tasks_of : {T : Type 0} → List (Entry (List ℕ) (Fate T)) → List T
tasks_of [] = []
tasks_of (entry ∷ entries) = fate_tasks entry.fate ++ tasks_of entries

-- a job that may run has no more words than the region
abbrev pub FateFits : ℕ → Fate JobValue → Type 0
FateFits region (Ready job) = job.limits.words ≤ region
FateFits region (Refused line fault) = Unit {0}

abbrev pub EntriesFit : ℕ → List JobEntry → Type 0
EntriesFit region [] = Unit {0}
EntriesFit region (entry ∷ entries) = FateFits region entry.fate × EntriesFit region entries

abbrev pub BatchFits : ℕ → Batch (List JobEntry) → Type 0
BatchFits region (BatchRefused line fault) = Unit {0}
BatchFits region (Jobs rule entries) = EntriesFit region entries

-- ---- the numbers of the jobs

-- a job's name, and its number on a machine if it may run
abbrev pub ReportedJob : Type 0
ReportedJob = Entry (List ℕ) (Fate ℕ)

-- the number is that of the job's task
abbrev pub IsFateOn : {T : Type 0} → List T → Fate ℕ → Fate T → Type 0
IsFateOn tasks (Ready number) (Ready task) = of_job number tasks ≡ Some task
IsFateOn tasks (Refused line fault) fate = fate ≡ Refused line fault
IsFateOn tasks (Ready number) (Refused line fault) = ⊥

pub record IsReportedOf {T : Type 0} (tasks : List T) (reported_job : ReportedJob) (entry : Entry (List ℕ)
    (Fate T)) : Type 0 where
  pub name : reported_job.name ≡ entry.name
  pub fate : IsFateOn tasks reported_job.fate entry.fate

-- one for each job, in order
abbrev pub AreReportedOf : {T : Type 0} → List T → List ReportedJob → List (Entry (List ℕ) (Fate T)) → Type 0
AreReportedOf tasks [] [] = Unit {0}
AreReportedOf tasks [] (entry ∷ entries) = ⊥
AreReportedOf tasks (reported_job ∷ reported) [] = ⊥
AreReportedOf tasks (reported_job ∷ reported) (entry ∷ entries) =
    IsReportedOf tasks reported_job entry × AreReportedOf tasks reported entries

-- these are the tasks that may run, and all jobs are reported by their numbers
pub record AreLoaded (tasks : List Task) (reported : List ReportedJob) (entries : List TaskEntry) : Type 0 where
  pub tasks_are : tasks ≡ tasks_of entries
  pub reported_are : AreReportedOf tasks reported entries

-- ---- what is reported of them

-- all jobs have run to their ends and are collected
pub record HasRunOut (m : MachineState) : Type 0 where
  pub same_length : length m.standings ≡ length m.tasks
  pub collected : All (λ standing. standing ≡ Collected) m.standings

abbrev pub IsTask : Option Task → Type 0
IsTask None = ⊥
IsTask (Some task) = Unit {0}

-- a job that may run is one of these
abbrev pub IsAmong : List Task → Fate ℕ → Type 0
IsAmong tasks (Ready number) = IsTask (of_job number tasks)
IsAmong tasks (Refused line fault) = Unit {0}

abbrev pub AreAmong : List Task → List ReportedJob → Type 0
AreAmong tasks reported = All (λ (reported_job : ReportedJob). IsAmong tasks reported_job.fate) reported

abbrev pub told_text : Option Task → List ℕ
told_text None = []
told_text (Some task) = task_text task

abbrev pub fate_text_on : List Task → Fate ℕ → List ℕ
fate_text_on tasks (Ready number) = told_text (of_job number tasks)
fate_text_on tasks (Refused line fault) = refusal_text line fault

abbrev pub reported_job_text : List Task → ℕ → ReportedJob → List ℕ
reported_job_text tasks number reported_job = job_text number reported_job.name ++ fate_text_on tasks reported_job.fate

abbrev pub reported_jobs_text : List Task → ℕ → List ReportedJob → List ℕ
reported_jobs_text tasks number [] = []
reported_jobs_text tasks number (reported_job ∷ reported) =
    reported_job_text tasks number reported_job ++ reported_jobs_text tasks (number + 1) reported

abbrev pub told_return : Option Task → Bool
told_return None = false
told_return (Some task) = has_task_returned task

abbrev pub has_returned_on : List Task → Fate ℕ → Bool
has_returned_on tasks (Ready number) = told_return (of_job number tasks)
has_returned_on tasks (Refused line fault) = false

abbrev pub have_returned_on : List Task → List ReportedJob → Bool
have_returned_on tasks reported =
    list_all (λ (reported_job : ReportedJob). has_returned_on tasks reported_job.fate) reported

-- the report on jobs, of which those on the machine ran and the others are refused
abbrev pub report_text : List Task → List ReportedJob → List ℕ
report_text tasks reported =
    reported_jobs_text tasks 1 reported ++ end_text (length reported) (length reported - length tasks)

abbrev pub reported_status : List Task → List ReportedJob → Status
reported_status tasks reported = if have_returned_on tasks reported then AllReturned else SomeNot
