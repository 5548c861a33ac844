-- Reports as texts: an entry for each job, and the last line.
use Rattle.std.specs.Prelude.{◌≡◌, ◌≢◌, ◌⊎◌, ℕ, ◌+◌, ◌-◌, ◌<◌, ◌≤◌, ◌^◌, nat_lt, if◌then◌else◌}
use Rattle.std.specs.Prelude.{List, [], ◌∷◌, ◌++◌, All, codes, decimal}
use Rattle.std.specs.Prelude.{Option, Some, None, option_map}
use Rattle.memchr.specs.Find.{OccursAt}
use Rattle.report_splitter.specs.declared.ending.LineEnd.{LineEnd}
use Rattle.report_splitter.specs.declared.ending.Stop.{Stop}
use Rattle.report_splitter.specs.declared.ending.Stop.TheVariants.{Fault, Memory, Refused}

-- ---- entries

-- the entry of a job: its name, its end if that names a line, and the text after that
pub record EntryText : Type 0 where
  pub name : List ℕ
  pub end : Option LineEnd
  pub text : List ℕ

-- what is before the line
abbrev pub stop_text : Stop → List ℕ
stop_text Fault = codes "FAULT line "
stop_text Memory = codes "MEMORY line "
stop_text Refused = codes "REFUSED line "

abbrev pub end_text : Option LineEnd → List ℕ
end_text None = []
end_text (Some end) = stop_text end.stop ++ decimal end.line

-- what begins the first line of the entry at this place
unfoldable pub head_text : ℕ → List ℕ
head_text place = codes "JOB " ++ (decimal place ++ codes " ")

-- what follows it
unfoldable pub tail_text : EntryText → List ℕ
tail_text entry = entry.name ++ (codes " " ++ (end_text entry.end ++ entry.text))

abbrev pub entry_text : ℕ → EntryText → List ℕ
entry_text place entry = head_text place ++ tail_text entry

-- ---- reports

-- what begins the last line of a report on this number of jobs
unfoldable pub last_head : ℕ → List ℕ
last_head jobs = codes "END " ++ (decimal jobs ++ codes " jobs ")

abbrev pub last_line : ℕ → ℕ → List ℕ
last_line jobs refused = last_head jobs ++ (decimal refused ++ codes " refused\n")

-- a report on this number of jobs, from the entry at this place on
abbrev pub report_from : ℕ → ℕ → ℕ → List EntryText → List ℕ
report_from place jobs refused [] = last_line jobs refused
report_from place jobs refused (entry ∷ entries) =
    entry_text place entry ++ report_from (place + 1) jobs refused entries

-- what begins the line after the entry at this place
abbrev pub next_head : ℕ → ℕ → List ℕ
next_head place jobs = if nat_lt place jobs then head_text (place + 1) else last_head jobs

-- ---- what an entry is like

-- the end of a job that names no line
abbrev pub IsPlain : List ℕ → Type 0
IsPlain text =
    ((rest : List ℕ) × (text ≡ codes "RETURNED\n" ++ rest)) ⊎ ((rest : List ℕ) × (text ≡ codes "BUDGET\n" ++ rest))

-- the line has at most 64 bits, and a blank follows it
pub record IsLineEnd (end : LineEnd) (text : List ℕ) : Type 0 where
  pub fits : end.line < 2 ^ 64
  pub rest : List ℕ
  pub blank : text ≡ codes " " ++ rest

abbrev pub IsEnd : Option LineEnd → List ℕ → Type 0
IsEnd None text = IsPlain text
IsEnd (Some end) text = IsLineEnd end text

-- an entry: its name is a word, its last line has an LF, and none of its lines but the first begins as the first line
-- of an entry does, or as the last line of a report
pub record IsEntryText (entry : EntryText) : Type 0 where
  pub word : All (λ byte. byte ≢ 32) entry.name
  pub end : IsEnd entry.end entry.text
  pub lines : List ℕ
  pub last_feed : tail_text entry ≡ lines ++ codes "\n"
  pub no_job_line : (at : ℕ) → OccursAt (tail_text entry) (codes "\nJOB ") at → ⊥
  pub no_last_line : (at : ℕ) → OccursAt (tail_text entry) (codes "\nEND ") at → ⊥

-- ---- the report of a job's own file

-- the end is within a file that begins at this line of the batch
abbrev pub IsEndFrom : ℕ → Option LineEnd → Type 0
IsEndFrom first_line None = Unit {0}
IsEndFrom first_line (Some end) = (1 ≤ first_line) × (first_line ≤ end.line)

-- the same end, with its line counted from the first line of the file
abbrev pub own_end : ℕ → LineEnd → LineEnd
own_end first_line end = record end { line = end.line - first_line + 1 }

abbrev pub own_entry : ℕ → EntryText → EntryText
own_entry first_line entry = record entry { end = option_map (own_end first_line) entry.end }

-- the refused jobs of an entry
abbrev pub stop_refused : Stop → ℕ
stop_refused Fault = 0
stop_refused Memory = 0
stop_refused Refused = 1

abbrev pub refused_in : Option LineEnd → ℕ
refused_in None = 0
refused_in (Some end) = stop_refused end.stop

-- the report on this job alone, in the lines of its file
abbrev pub own_report : ℕ → EntryText → List ℕ
own_report first_line entry = report_from 1 1 (refused_in entry.end) (own_entry first_line entry ∷ [])
