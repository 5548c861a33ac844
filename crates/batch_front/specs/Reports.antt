-- The report of a batch, byte by byte, and its status.
use Rattle.std.specs.Prelude.{ℕ, ℤ, pos, ◌+◌, Bool, true, false, if◌then◌else◌, List, [], ◌∷◌, ◌++◌, codes, length}
use Rattle.std.specs.Prelude.{map, count_by, decimal}
use Rattle.std.specs.Fmt.{signed_decimal}
use Rattle.std.specs.Ordering.{int_eq}
use Rattle.std.specs.List.{flat_map, join_with_byte, list_all}
use Rattle.vcode_base.specs.declared.kind.Kind.{Kind}
use Rattle.vcode_base.specs.declared.kind.Kind.TheVariants.{Int, Bool as Flags, Segdes}
use Rattle.vcode_base.specs.declared.outcome.Outcome.{Outcome}
use Rattle.vcode_base.specs.declared.outcome.Outcome.TheVariants.{Returned, Fault, Memory, Budget}
use Rattle.vcode_base.specs.declared.rule.Rule.{Rule}
use Rattle.vcode_base.specs.Texts.{data_fault_text, memory_fault_text}
use Rattle.job_steps.specs.Runs.{outcome, executed_count, peak}
use Rattle.job_steps.specs.States.{Vector, JobValue, Task, ruled}
use Rattle.batch_reader.specs.declared.entry.Batch.{Batch}
use Rattle.batch_reader.specs.declared.entry.Batch.TheVariants.{Refused as BatchRefusal, Jobs}
use Rattle.batch_reader.specs.declared.entry.Entry.{Entry}
use Rattle.batch_reader.specs.declared.entry.Fate.{Fate}
use Rattle.batch_reader.specs.declared.entry.Fate.TheVariants.{Ready, Refused}
use Rattle.batch_reader.specs.declared.fault.JobFault.{JobFault}
use Rattle.batch_reader.specs.BatchTexts.{batch_fault_text, job_fault_text}
use Rattle.batch_reader.specs.Fates.{JobEntry}
use Rattle.batch_front.specs.declared.status.Status.{Status}
use Rattle.batch_front.specs.declared.status.Status.TheVariants.{AllReturned, SomeNot, BatchRefused}

-- ---- results

abbrev pub kind_text : Kind → List ℕ
kind_text Int = codes "INT"
kind_text Flags = codes "BOOL"
kind_text Segdes = codes "SEGDES"

abbrev pub flag_text : ℤ → List ℕ
flag_text word = if int_eq word (pos 1) then codes "T" else codes "F"

abbrev pub word_text : Kind → ℤ → List ℕ
word_text Int word = signed_decimal word
word_text Flags word = flag_text word
word_text Segdes word = signed_decimal word

-- a word after another
abbrev pub next_word_text : Kind → ℤ → List ℕ
next_word_text kind word = 32 ∷ word_text kind word

-- a result, as in INT (1 -2)
abbrev pub value_text : Vector → List ℕ
value_text v = kind_text v.kind ++ codes " (" ++ join_with_byte 32 (map (word_text v.kind) v.words) ++ codes ")\n"

-- ---- the rule of a batch

-- what becomes of a job, which runs by this rule if it may run
abbrev pub ruled_fate : Rule → Fate JobValue → Fate Task
ruled_fate rule (Ready job) = Ready (ruled rule job)
ruled_fate rule (Refused line fault) = Refused line fault

-- a job's name with its fate, under the rule of its batch
abbrev pub TaskEntry : Type 0
TaskEntry = Entry (List ℕ) (Fate Task)

abbrev pub ruled_entry : Rule → JobEntry → TaskEntry
ruled_entry rule entry = record { name = entry.name; fate = ruled_fate rule entry.fate }

abbrev pub ruled_entries : Rule → List JobEntry → List TaskEntry
ruled_entries rule entries = map (ruled_entry rule) entries

-- ---- jobs

-- a line of this head: the line of a fault and what it is
abbrev pub fault_text : List ℕ → ℕ → List ℕ → List ℕ
fault_text head line name = head ++ codes "line " ++ decimal line ++ codes " " ++ name ++ codes "\n"

-- a number and what it counts
abbrev pub count_text : ℕ → List ℕ → List ℕ
count_text number unit = codes " " ++ decimal number ++ codes " " ++ unit

abbrev pub outcome_text : Outcome (List Vector) → List ℕ
outcome_text (Returned results) = codes "RETURNED\n" ++ flat_map value_text results
outcome_text (Fault fault line) = fault_text (codes "FAULT ") line (data_fault_text fault)
outcome_text (Memory fault line) = fault_text (codes "MEMORY ") line (memory_fault_text fault)
outcome_text Budget = codes "BUDGET\n"

abbrev pub used_text : ℕ → ℕ → List ℕ
used_text instructions words =
    codes "USED" ++ count_text instructions (codes "instructions") ++ count_text words (codes "words") ++ codes "\n"

-- how a job ends alone, and what it used
abbrev pub task_text : Task → List ℕ
task_text task = outcome_text (outcome task) ++ used_text (executed_count task) (peak task)

abbrev pub refusal_text : ℕ → JobFault → List ℕ
refusal_text line fault = fault_text (codes "REFUSED ") line (job_fault_text fault)

abbrev pub fate_text : Fate Task → List ℕ
fate_text (Ready task) = task_text task
fate_text (Refused line fault) = refusal_text line fault

-- what begins the lines of the job of this number
abbrev pub job_text : ℕ → List ℕ → List ℕ
job_text number name = codes "JOB " ++ decimal number ++ codes " " ++ name ++ codes " "

abbrev pub entry_text : ℕ → TaskEntry → List ℕ
entry_text number entry = job_text number entry.name ++ fate_text entry.fate

abbrev pub entries_text : ℕ → List TaskEntry → List ℕ
entries_text number [] = []
entries_text number (entry ∷ entries) = entry_text number entry ++ entries_text (number + 1) entries

-- ---- the whole

abbrev pub is_refused : {T : Type 0} → Fate T → Bool
is_refused (Ready task) = false
is_refused (Refused line fault) = true

abbrev pub refused_count : {T : Type 0} → List (Entry (List ℕ) (Fate T)) → ℕ
refused_count {T = T} entries = count_by (λ (entry : Entry (List ℕ) (Fate T)). is_refused entry.fate) entries

abbrev pub end_text : ℕ → ℕ → List ℕ
end_text jobs refused =
    codes "END" ++ count_text jobs (codes "jobs") ++ count_text refused (codes "refused") ++ codes "\n"

abbrev pub jobs_text : List TaskEntry → List ℕ
jobs_text entries = entries_text 1 entries ++ end_text (length entries) (refused_count entries)

unfoldable pub report_of : Batch (List JobEntry) → List ℕ
report_of (BatchRefusal line fault) = fault_text (codes "BATCH ") line (batch_fault_text fault)
report_of (Jobs rule entries) = jobs_text (ruled_entries rule entries)

abbrev pub is_return : Outcome (List Vector) → Bool
is_return (Returned results) = true
is_return _ = false

abbrev pub has_task_returned : Task → Bool
has_task_returned task = is_return (outcome task)

abbrev pub has_returned : Fate Task → Bool
has_returned (Ready task) = has_task_returned task
has_returned (Refused line fault) = false

abbrev pub jobs_status : List TaskEntry → Status
jobs_status entries =
    if list_all (λ (entry : TaskEntry). has_returned entry.fate) entries then AllReturned else SomeNot

unfoldable pub status_of : Batch (List JobEntry) → Status
status_of (BatchRefusal line fault) = BatchRefused
status_of (Jobs rule entries) = jobs_status (ruled_entries rule entries)
