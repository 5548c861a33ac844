-- The entries of a report on a batch, in the parts that are cut.
use Rattle.std.specs.Prelude.{◌≢◌, ◌<◌, ◌^◌, ℕ, List, ◌++◌, All, codes, Option, Some, None, IfSome}
use Rattle.std.specs.List.{flat_map}
use Rattle.vcode_base.specs.declared.outcome.Outcome.{Outcome}
use Rattle.vcode_base.specs.declared.outcome.Outcome.TheVariants.{Returned, Fault, Memory, Budget}
use Rattle.vcode_base.specs.Texts.{data_fault_text, memory_fault_text}
use Rattle.job_steps.specs.Runs.{outcome, executed_count, peak}
use Rattle.job_steps.specs.States.{Vector, Task}
use Rattle.batch_reader.specs.declared.entry.Fate.{Fate}
use Rattle.batch_reader.specs.declared.entry.Fate.TheVariants.{Ready, Refused}
use Rattle.batch_reader.specs.BatchTexts.{job_fault_text}
use Rattle.batch_front.specs.Reports.{TaskEntry, used_text, value_text}
use Rattle.report_splitter.specs.declared.ending.LineEnd.{LineEnd}
use Rattle.report_splitter.specs.declared.ending.Stop.TheVariants as stop
use Rattle.report_splitter.specs.ReportTexts.{EntryText}

-- the end of a run, if it names a line
abbrev pub line_end : Outcome (List Vector) → Option LineEnd
line_end (Returned results) = None
line_end (Fault fault line) = Some (record { stop = stop.Fault; line = line })
line_end (Memory fault line) = Some (record { stop = stop.Memory; line = line })
line_end Budget = None

-- what follows that line of the end
abbrev pub text_after_end : Outcome (List Vector) → List ℕ
text_after_end (Returned results) = codes "RETURNED\n" ++ flat_map value_text results
text_after_end (Fault fault line) = codes " " ++ (data_fault_text fault ++ codes "\n")
text_after_end (Memory fault line) = codes " " ++ (memory_fault_text fault ++ codes "\n")
text_after_end Budget = codes "BUDGET\n"

-- the same of a job that ran or was refused
abbrev pub fate_end : Fate Task → Option LineEnd
fate_end (Ready task) = line_end (outcome task)
fate_end (Refused line fault) = Some (record { stop = stop.Refused; line = line })

abbrev pub text_after_fate : Fate Task → List ℕ
text_after_fate (Ready task) = text_after_end (outcome task) ++ used_text (executed_count task) (peak task)
text_after_fate (Refused line fault) = codes " " ++ (job_fault_text fault ++ codes "\n")

-- the entry of a job
abbrev pub entry_parts : TaskEntry → EntryText
entry_parts entry = record { name = entry.name; end = fate_end entry.fate; text = text_after_fate entry.fate }

-- its name has no blank and no LF, and the line of its end has at most 64 bits
pub record IsReportable (entry : TaskEntry) : Type 0 where
  pub word : All (λ byte. byte ≢ 32) entry.name
  pub one_line : All (λ byte. byte ≢ 10) entry.name
  pub fits : IfSome (fate_end entry.fate) (λ end. end.line < 2 ^ 64)
