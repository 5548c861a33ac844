-- A batch that was read: its jobs on a machine, and what is reported of it once they have run out.
use Rattle.std.specs.Prelude.{◌≡◌, ◌≤◌, ℕ, List, Option, codes, length}
use Rattle.job_machine.specs.Machines.{MachineState}
use Rattle.job_steps.specs.Standings.{first_standings}
use Rattle.batch_reader.specs.declared.entry.Batch.{Batch}
use Rattle.batch_reader.specs.BatchTexts.{batch_fault_text}
use Rattle.batch_reader.specs.Fates.{JobEntry}
use Rattle.batch_front.specs.declared.load.Loaded.{Loaded}
use Rattle.batch_front.specs.declared.load.Loaded.TheVariants.{Refused, Jobs}
use Rattle.batch_front.specs.declared.status.Status.{Status}
use Rattle.batch_front.specs.declared.status.Status.TheVariants.{BatchRefused}
use Rattle.batch_front.specs.Reads.{IsBatchIn}
use Rattle.batch_front.specs.Reports.{fault_text, report_of, status_of}
use Rattle.batch_front.specs.ReportedJobs.{AreAmong, HasRunOut, ReportedJob, report_text, reported_status}

abbrev pub LoadedBatch : Type 0
LoadedBatch = Loaded MachineState (List ReportedJob)

-- its report
abbrev pub loaded_text : LoadedBatch → List ℕ
loaded_text (Refused line fault) = fault_text (codes "BATCH ") line (batch_fault_text fault)
loaded_text (Jobs machine reported) = report_text machine.tasks reported

-- its status
abbrev pub loaded_status : LoadedBatch → Status
loaded_status (Refused line fault) = BatchRefused
loaded_status (Jobs machine reported) = reported_status machine.tasks reported

-- a loaded batch is the one that an input is: it has that batch's report and status
pub record IsLoaded (region : ℕ) (input : Option (List ℕ)) (loaded : LoadedBatch) : Type 0 where
  pub batch : Batch (List JobEntry)
  pub comes : IsBatchIn region input batch
  pub report : loaded_text loaded ≡ report_of batch
  pub status : loaded_status loaded ≡ status_of batch

-- ---- before and after its jobs run

-- the reported jobs are those of the machine, and such as are refused
pub record AreJobsOf (m : MachineState) (reported : List ReportedJob) : Type 0 where
  pub there : AreAmong m.tasks reported
  pub fewer : length m.tasks ≤ length reported

-- all jobs wait
abbrev pub IsWaiting : LoadedBatch → Type 0
IsWaiting (Refused line fault) = Unit {0}
IsWaiting (Jobs machine reported) =
    (machine.standings ≡ first_standings machine.tasks) × AreJobsOf machine reported

-- all jobs have run out
abbrev pub IsRunOut : LoadedBatch → Type 0
IsRunOut (Refused line fault) = Unit {0}
IsRunOut (Jobs machine reported) = HasRunOut machine × AreJobsOf machine reported

-- a batch whose jobs have run out is the one in which they waited
pub record RanOut (before after : LoadedBatch) : Type 0 where
  pub out : IsRunOut after
  pub report : loaded_text after ≡ loaded_text before
  pub status : loaded_status after ≡ loaded_status before
