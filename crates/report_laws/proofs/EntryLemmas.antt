-- The entries of a report on a batch are entries that are cut.
use Rattle.std.proofs.Common.{◌≡◌, ◌<◌, ◌+◌, ◌^◌, ℕ, ℤ, List, [], ◌∷◌, ◌++◌, refl, sym}
use Rattle.std.proofs.Common.{ap, ◌∙◌, arith, append_assoc, Option}
use Rattle.std.specs.Prelude.{All, codes, decimal, map, IfSome}
use Rattle.std.specs.List.{flat_map, join_with_byte}
use Rattle.std.proofs.lemmas.List.Elements.{All-head, All-tail, All-cons}
use Rattle.vcode_base.specs.declared.kind.Kind.{Kind}
use Rattle.vcode_base.specs.declared.outcome.Outcome.{Outcome}
use Rattle.vcode_base.specs.declared.fault.DataFault.{DataFault}
use Rattle.vcode_base.specs.declared.fault.DataFault.TheVariants as data_fault
use Rattle.vcode_base.specs.declared.fault.MemoryFault.{MemoryFault}
use Rattle.vcode_base.specs.declared.fault.MemoryFault.TheVariants as memory_fault
use Rattle.vcode_base.specs.Texts.{data_fault_text, memory_fault_text}
use Rattle.vcode_reader.specs.declared.fault.CodeFault.{CodeFault}
use Rattle.vcode_reader.specs.declared.fault.CodeFault.TheVariants as code_fault
use Rattle.vcode_reader.specs.Refusals.{refusal_text}
use Rattle.signatures.specs.declared.fault.SignatureFault.{SignatureFault}
use Rattle.signatures.specs.declared.fault.SignatureFault.TheVariants as signature_fault
use Rattle.signatures.specs.Faults.{signature_fault_text}
use Rattle.verifier.specs.declared.fault.KindFault.{KindFault}
use Rattle.verifier.specs.declared.fault.KindFault.TheVariants as kind_fault
use Rattle.verifier.specs.Faults.{kind_fault_text}
use Rattle.job_steps.specs.Runs.{outcome, executed_count, peak}
use Rattle.job_steps.specs.States.{Vector, Task}
use Rattle.batch_reader.specs.declared.entry.Fate.{Fate}
use Rattle.batch_reader.specs.declared.entry.Fate.TheVariants.{Ready, Refused}
use Rattle.batch_reader.specs.declared.fault.JobFault.{JobFault}
use Rattle.batch_reader.specs.declared.fault.JobFault.TheVariants as job_fault
use Rattle.batch_reader.specs.BatchTexts.{job_fault_text}
use Rattle.batch_front.specs.Reports.{TaskEntry, count_text, entries_text, fate_text, flag_text, kind_text}
use Rattle.batch_front.specs.Reports.{outcome_text, used_text, value_text}
use Rattle.batch_front.specs.Reports.{word_text, entry_text as own_entry_text, end_text as report_end}
use Rattle.report_laws.specs.EntryParts.{IsReportable, entry_parts, fate_end, line_end, text_after_end, text_after_fate}
use Rattle.report_laws.specs.LineStarts.{HasApartLines, StartsApart}
use Rattle.report_laws.proofs.LineTexts.{BeginsApart, IsPart, begins_append, begins_starts, decimal_part, join_part}
use Rattle.report_laws.proofs.LineTexts.{line_before, no_line_begins, part_append, part_before, part_of_name}
use Rattle.report_laws.proofs.LineTexts.{signed_part, tested_part}
use Rattle.report_splitter.specs.declared.ending.LineEnd.{LineEnd}
use Rattle.report_splitter.specs.declared.ending.Stop.{Stop}
use Rattle.report_splitter.specs.declared.ending.Stop.TheVariants as stop
use Rattle.report_splitter.specs.ReportTexts.{IsEnd, IsEntryText, end_text, head_text, last_head, last_line}
use Rattle.report_splitter.specs.ReportTexts.{report_from, stop_text, tail_text}

-- ---- the names of faults

data_part : (f : DataFault) → IsPart (data_fault_text f)
data_part f = tested_part (data_fault_text f) (grind arith)

memory_part : (f : MemoryFault) → IsPart (memory_fault_text f)
memory_part f = tested_part (memory_fault_text f) (grind arith)

signature_part : (f : SignatureFault) → IsPart (signature_fault_text f)
signature_part f = tested_part (signature_fault_text f) (grind arith)

code_part : (f : CodeFault) → IsPart (refusal_text f)
code_part f = tested_part (refusal_text f) (grind arith)

kind_part : (f : KindFault) → IsPart (kind_fault_text f)
kind_part f = tested_part (kind_fault_text f) (grind arith)

job_part : (f : JobFault) → IsPart (job_fault_text f)
job_part f = grind (arith, tested_part, signature_part, code_part, kind_part)

stop_part : (s : Stop) → IsPart (stop_text s)
stop_part s = tested_part (stop_text s) (grind arith)

end_part : (end : Option LineEnd) → IsPart (end_text end)
end_part end = grind (arith, part_append, stop_part, decimal_part)

-- ---- what a job used

count_part : (n : ℕ) (unit : List ℕ) → IsPart unit → IsPart (count_text n unit)
count_part n unit h1 = grind (arith, part_append, tested_part, decimal_part)

abbrev used_line : ℕ → ℕ → List ℕ
used_line i w = codes "USED" ++ count_text i (codes "instructions") ++ count_text w (codes "words")

used_part : (i w : ℕ) → IsPart (used_line i w)
used_part i w = grind (arith, part_append, tested_part, count_part)

used_apart : (i w : ℕ) → HasApartLines (used_text i w)
used_apart i w = line_before (used_line i w) [] (used_part i w) tt tt

used_starts : (i w : ℕ) → StartsApart (used_text i w)
used_starts i w = ((λ e. omega (arith, e)), (λ e. omega (arith, e)))

-- ---- results

kind_begins : (k : Kind) → BeginsApart (kind_text k)
kind_begins k = grind arith

kind_text_part : (k : Kind) → IsPart (kind_text k)
kind_text_part k = tested_part (kind_text k) (grind arith)

flag_part : (z : ℤ) → IsPart (flag_text z)
flag_part z = tested_part (flag_text z) (grind arith)

word_part : (k : Kind) (z : ℤ) → IsPart (word_text k z)
word_part k z = grind (arith, signed_part, flag_part)

abbrev value_line : Vector → List ℕ
value_line v = kind_text v.kind ++ codes " (" ++ join_with_byte 32 (map (word_text v.kind) v.words)

value_part : (v : Vector) → IsPart (value_line v)
value_part v = grind (arith, part_append, kind_text_part, tested_part, join_part, word_part)

value_begins : (v : Vector) → BeginsApart (value_line v)
value_begins v = grind (arith, begins_append, kind_begins)

value_before : (v : Vector) (rest : List ℕ) → StartsApart rest → HasApartLines rest
    → HasApartLines (value_text v ++ rest)
value_before v rest h1 h2 = grind (arith, append_assoc, part_before, value_part)

values_start : (vs : List Vector) (rest : List ℕ) → StartsApart rest → StartsApart (flat_map value_text vs ++ rest)
values_start [] rest starts = starts
values_start (v ∷ vs) rest starts = begins_starts ((value_text v ++ flat_map value_text vs) ++ rest)
    (begins_append (value_text v ++ flat_map value_text vs) rest
    (begins_append (value_text v) (flat_map value_text vs) (begins_append (value_line v) (codes ")\n")
    (value_begins v))))

values_before : (vs : List Vector) (rest : List ℕ) → StartsApart rest → HasApartLines rest
    → HasApartLines (flat_map value_text vs ++ rest)
values_before [] rest starts h = h
values_before (v ∷ vs) rest starts h =
    grind (arith, append_assoc, value_before, values_start, values_before vs rest starts h)

-- ---- what follows the line of an end

name_before : (t rest : List ℕ) → IsPart t → StartsApart rest → HasApartLines rest
    → HasApartLines ((codes " " ++ (t ++ codes "\n")) ++ rest)
name_before t rest h1 h2 h3 = grind (arith, append_assoc, line_before)

after_end_apart : (o : Outcome (List Vector)) (rest : List ℕ) → StartsApart rest → HasApartLines rest
    → HasApartLines (text_after_end o ++ rest)
after_end_apart o rest h1 h2 =
    grind (arith, line_before, tested_part, values_start, values_before, name_before, data_part, memory_part)

after_fate_apart : (f : Fate Task) → HasApartLines (text_after_fate f)
after_fate_apart f = grind (arith, after_end_apart, used_starts, used_apart, line_before, job_part)

-- ---- an entry

after_end_is : (o : Outcome (List Vector)) (rest : List ℕ) → IfSome (line_end o) (λ end. end.line < 2 ^ 64)
    → IsEnd (line_end o) (text_after_end o ++ rest)
after_end_is o rest h1 = grind arith

fate_is : (f : Fate Task) → IfSome (fate_end f) (λ end. end.line < 2 ^ 64) → IsEnd (fate_end f) (text_after_fate f)
fate_is f h1 = grind (arith, after_end_is)

fate_feed : (f : Fate Task) → (t : List ℕ) × (text_after_fate f ≡ t ++ codes "\n")
fate_feed (Ready task) = (
  text_after_end (outcome task) ++ used_line (executed_count task) (peak task),
  sym (append_assoc (text_after_end (outcome task)) (used_line (executed_count task) (peak task)) (codes "\n")),
)
fate_feed (Refused line fault) = (codes " " ++ job_fault_text fault, refl)

tail_feed : (name end text t : List ℕ) → text ≡ t ++ codes "\n"
    → name ++ (codes " " ++ (end ++ text)) ≡ (name ++ (codes " " ++ (end ++ t))) ++ codes "\n"
tail_feed name end text t e = ap (λ (x : List ℕ). name ++ (codes " " ++ (end ++ x))) e ∙ sym (simp append_assoc)

tail_apart : (entry : TaskEntry) → IsReportable entry → HasApartLines (tail_text (entry_parts entry))
unfolding tail_text
tail_apart entry h1 = grind (arith, part_before, part_of_name, end_part, after_fate_apart)

tail_feeds : (entry : TaskEntry) → (lines : List ℕ) × (tail_text (entry_parts entry) ≡ lines ++ codes "\n")
unfolding tail_text
tail_feeds entry =
    let feed = fate_feed entry.fate in (
      entry.name ++ (codes " " ++ (end_text (fate_end entry.fate) ++ feed.0)),
      tail_feed entry.name (end_text (fate_end entry.fate)) (text_after_fate entry.fate) feed.0 feed.1,
    )

pub entry_is : (entry : TaskEntry) → IsReportable entry → IsEntryText (entry_parts entry)
entry_is entry r = record {
  word = r.word;
  end = fate_is entry.fate r.fits;
  lines = (tail_feeds entry).0;
  last_feed = (tail_feeds entry).1;
  no_job_line = λ at o. no_line_begins (tail_text (entry_parts entry)) 74 (codes "OB ") at (λ s. s.0 refl)
      (tail_apart entry r) o;
  no_last_line = λ at o. no_line_begins (tail_text (entry_parts entry)) 69 (codes "ND ") at (λ s. s.1 refl)
      (tail_apart entry r) o;
}

pub entries_are : (entries : List TaskEntry) → All IsReportable entries → All IsEntryText (map entry_parts entries)
entries_are [] all = λ i k l. absurd (omega (arith, l))
entries_are (entry ∷ entries) all = All-cons IsEntryText (entry_parts entry) (map entry_parts entries)
    (entry_is entry (All-head IsReportable entry entries all)) (entries_are entries
    (All-tail IsReportable entry entries all))

-- ---- the report

outcome_parts : (o : Outcome (List Vector)) (rest : List ℕ) → outcome_text o ++ rest
    ≡ end_text (line_end o) ++ (text_after_end o ++ rest)
outcome_parts o rest = grind (arith, append_assoc)

fate_parts : (f : Fate Task) → fate_text f ≡ end_text (fate_end f) ++ text_after_fate f
fate_parts f = grind (arith, append_assoc, outcome_parts)

head_parts : (dec name rest : List ℕ)
    → (codes "JOB " ++ dec ++ codes " " ++ name ++ codes " ") ++ rest
    ≡ (codes "JOB " ++ (dec ++ codes " ")) ++ (name ++ (codes " " ++ rest))
head_parts dec name rest = simp append_assoc

pub entry_text_is : (number : ℕ) (entry : TaskEntry) → own_entry_text number entry
    ≡ head_text number ++ tail_text (entry_parts entry)
unfolding head_text tail_text
entry_text_is number entry = grind (arith, fate_parts, head_parts)

abbrev counted : List ℕ → List ℕ → List ℕ
counted number unit = number ++ codes " " ++ unit

end_parts : (a b : List ℕ)
    → (codes "END" ++ (codes " " ++ a ++ codes " " ++ codes "jobs") ++
    (codes " " ++ b ++ codes " " ++ codes "refused")) ++ codes "\n"
    ≡ (codes "END " ++ (a ++ codes " jobs ")) ++ (b ++ codes " refused\n")
end_parts a b = ap (λ (x : List ℕ). codes "END " ++ x) (
    append_assoc (counted a (codes "jobs")) (32 ∷ counted b (codes "refused")) (codes "\n")
    ∙ ap (λ (x : List ℕ). x ++ (32 ∷ (counted b (codes "refused") ++ codes "\n"))) (append_assoc a (codes " ")
    (codes "jobs"))
    ∙ append_assoc a (codes " jobs") (32 ∷ (counted b (codes "refused") ++ codes "\n"))
    ∙ sym (append_assoc a (codes " jobs ") (counted b (codes "refused") ++ codes "\n"))
    ∙ ap (λ (x : List ℕ). (a ++ codes " jobs ") ++ x)
    (ap (λ (x : List ℕ). x ++ codes "\n") (append_assoc b (codes " ") (codes "refused"))
    ∙ append_assoc b (codes " refused") (codes "\n")))

end_is : (jobs refused : ℕ) → report_end jobs refused ≡ last_line jobs refused
unfolding last_head
end_is jobs refused = end_parts (decimal jobs) (decimal refused)

pub entries_text_is : (number jobs refused : ℕ) (entries : List TaskEntry)
    → entries_text number entries ++ report_end jobs refused ≡ report_from number jobs refused (map entry_parts entries)
entries_text_is number jobs refused [] = grind (arith, end_is)
entries_text_is number jobs refused (entry ∷ entries) =
    grind (arith, append_assoc, entry_text_is, entries_text_is (number + 1) jobs refused entries)
