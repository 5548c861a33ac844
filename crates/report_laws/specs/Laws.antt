-- A report on a batch is one that is cut, and what is cut is the report of the job's own file.
use Rattle.std.specs.Prelude.{◌≡◌, ◌≤◌, ◌+◌, ℕ, List, [], ◌∷◌, length, All, map, option_map, IfSome}
use Rattle.vcode_base.specs.Lines.{line_feeds}
use Rattle.vcode_base.specs.declared.limits.TheConstants.{MOST_BATCH_BYTES, MOST_JOBS}
use Rattle.vcode_base.specs.declared.rule.Rule.{Rule}
use Rattle.vcode_reader.specs.Reading.{reading as code_reading}
use Rattle.vcode_reader.specs.Trees.{Program}
use Rattle.signatures.specs.Signatures.{Signature}
use Rattle.verifier.specs.First.{kind_fault}
use Rattle.job_steps.specs.Runs.{outcome, executed_count, peak}
use Rattle.job_steps.specs.States.{Task}
use Rattle.batch_reader.specs.declared.entry.Batch.TheVariants.{Jobs}
use Rattle.batch_reader.specs.declared.entry.Fate.{Fate}
use Rattle.batch_reader.specs.declared.entry.Fate.TheVariants.{Ready, Refused}
use Rattle.batch_reader.specs.Batches.{JobText}
use Rattle.batch_reader.specs.Fates.{IsBatch, IsEntry, JobEntry, signatures_of}
use Rattle.batch_packer.specs.Joins.{IsOneJob, OneJob, joined, moved, rule_line, text_of}
use Rattle.batch_front.specs.Reports.{TaskEntry, jobs_text, refused_count, report_of, ruled_entries, ruled_entry}
use Rattle.report_laws.specs.MovedCode.{code_further_on, fault_further_on, further_on, moved_outcome, moved_program}
use Rattle.report_laws.specs.MovedCode.{moved_task}
use Rattle.report_laws.specs.EntryParts.{IsReportable, entry_parts, fate_end}
use Rattle.report_splitter.specs.ReportTexts.{IsEntryText, own_report, report_from}

-- the report on a batch is a report of these entries, and each is an entry that can be cut
pub record IsCutReport (rule : Rule) (entries : List JobEntry) (tasks : List TaskEntry) : Type 0 where
  pub report : report_of (Jobs rule entries) ≡ report_from 1 (length tasks) (refused_count tasks)
      (map entry_parts tasks)
  pub entry_texts : All IsEntryText (map entry_parts tasks)

abbrev pub ReportsAreCut : Type 0
ReportsAreCut =
    (rule : Rule) (entries : List JobEntry) → All IsReportable (ruled_entries rule entries)
    → IsCutReport rule entries (ruled_entries rule entries)

-- ---- n lines further on

-- a task ends as another, n lines further on
pub record EndsFurtherOn (n : ℕ) (own other : Task) : Type 0 where
  pub ends : outcome other ≡ moved_outcome n (outcome own)
  pub executed : executed_count other ≡ executed_count own
  pub peaks : peak other ≡ peak own

-- a task whose program's lines are moved by n ends as before, n lines further on
abbrev pub RunsMove : Type 0
RunsMove = (n : ℕ) (task : Task) → EndsFurtherOn n task (moved_task n task)

-- what becomes of a job is what becomes of another, n lines further on
abbrev pub IsFateFurtherOn : ℕ → Fate Task → Fate Task → Type 0
IsFateFurtherOn n (Ready own) (Ready other) = EndsFurtherOn n own other
IsFateFurtherOn n (Refused line fault) other = other ≡ Refused (line + n) fault
IsFateFurtherOn n (Ready own) (Refused line fault) = ⊥

-- If the first n lines of a batch are before a job, and what becomes of it is what becomes of it in its own file, n
-- lines further on, the report that is cut for that file is the report on that file.
abbrev pub OwnReportsAreCut : Type 0
OwnReportsAreCut =
    (n : ℕ) (own other : TaskEntry) → other.name ≡ own.name → IsFateFurtherOn n own.fate other.fate
    → IfSome (fate_end own.fate) (λ end. 1 ≤ end.line)
    → own_report (n + 1) (entry_parts other) ≡ jobs_text (own ∷ [])

-- ---- what is refused n lines further on

-- The words and the signatures of a job whose lines are moved by n are refused for the same, n lines further on, or
-- give the same signatures.
abbrev pub SignaturesMove : Type 0
SignaturesMove =
    (region n : ℕ) (job : JobText) → signatures_of region (moved n job) ≡ further_on n (signatures_of region job)

-- A text whose first line is moved by n is read as the program with its lines moved by n, or has the same first fault,
-- n lines further on.
abbrev pub CodeMoves : Type 0
CodeMoves =
    (n first : ℕ) (text : List ℕ) → code_reading (first + n) text ≡ code_further_on n (code_reading first text)

-- A program whose lines are moved by n has the same first kind fault, n lines further on, or none as before.
abbrev pub KindsMove : Type 0
KindsMove =
    (n : ℕ) (signatures : List Signature) (program : Program)
    → kind_fault signatures (moved_program n program)
    ≡ option_map (fault_further_on n) (kind_fault signatures program)

-- ---- the report on a file

-- its lines count from 1
pub record IsNumbered (job : JobText) : Type 0 where
  pub line : 1 ≤ job.line
  pub signatures_line : 1 ≤ job.signatures_line
  pub code_line : 1 ≤ job.code_line

-- If a job's entry is `own`, and that of the job with its lines moved by n is `other`, what is cut of `other` for a
-- file before which there are n lines is the report on a batch of the job alone.
abbrev pub FilesAreCut : Type 0
FilesAreCut =
    (rule : Rule) (region n : ℕ) (job : JobText) (own other : JobEntry) → IsNumbered job → IsEntry region job own
    → IsEntry region (moved n job) other
    → own_report (n + 1) (entry_parts (ruled_entry rule other)) ≡ report_of (Jobs rule (own ∷ []))

-- The entries are as many as the files. What is cut of each for its file is the report on the file, if n lines are
-- before the first file.
abbrev pub AreOwnReports : Rule → ℕ → ℕ → List OneJob → List JobEntry → Type 0
AreOwnReports rule region n [] [] = Unit {0}
AreOwnReports rule region n [] (entry ∷ entries) = ⊥
AreOwnReports rule region n (file ∷ files) [] = ⊥
AreOwnReports rule region n (file ∷ files) (other ∷ entries) =
    ((own : JobEntry) → IsBatch region file.bytes (Jobs rule (own ∷ []))
    → own_report (n + 1) (entry_parts (ruled_entry rule other)) ≡ report_of (Jobs rule (own ∷ [])))
    × AreOwnReports rule region (n + line_feeds (text_of rule file.bytes)) files entries

-- If each file is one job and the sizes fit, what is cut for each file off the report on the batch of the files is the
-- report on the file.
abbrev pub PackedReportsAreCut : Type 0
PackedReportsAreCut =
    (rule : Rule) (region : ℕ) (files : List OneJob) (entries : List JobEntry) → All (IsOneJob rule) files
    → length files ≤ MOST_JOBS → length (joined rule files) ≤ MOST_BATCH_BYTES
    → IsBatch region (joined rule files) (Jobs rule entries)
    → AreOwnReports rule region (line_feeds (rule_line rule)) files entries
