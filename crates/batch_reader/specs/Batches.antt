-- The rule of a batch and its jobs as texts, or the refusal of the batch that is met first.
use Rattle.std.specs.Prelude.{ℕ, zero, suc, ◌+◌, Bool, if◌then◌else◌, List, [], ◌∷◌, ◌++◌, Option, Some, None}
use Rattle.std.specs.Prelude.{Result, Ok, Err}
use Rattle.vcode_base.specs.declared.limits.TheConstants.{MOST_JOBS}
use Rattle.vcode_base.specs.declared.rule.Rule.{Rule}
use Rattle.vcode_base.specs.declared.rule.Rule.TheVariants.{First, Second}
use Rattle.batch_reader.specs.declared.heading.Heading.{Heading}
use Rattle.batch_reader.specs.declared.fault.BatchFault.{BatchFault}
use Rattle.batch_reader.specs.declared.fault.BatchFault.TheVariants.{BadJobLine, UnfinishedJob, TooLarge}
use Rattle.batch_reader.specs.Blocks.{Block, block_of, ends_signatures, is_code, is_end}
use Rattle.batch_reader.specs.Chains.{result_and_then}
use Rattle.batch_reader.specs.Headings.{BatchLine, is_blank, is_second_rule, is_signatures, lines_of}
use Rattle.batch_reader.specs.JobLines.{JobLine, job_line_of}
use Rattle.batch_reader.specs.Lines.{batch_words}

-- what refuses a whole batch, and its line
abbrev pub Refusal : Type 0
Refusal = BatchFault × ℕ

-- ---- one job

-- a job as the batch has it: what its JOB line says and the line's number, its texts and the numbers of their
-- first lines
pub record JobText : Type 0 where
  pub head : JobLine
  pub line : ℕ
  pub signatures_line : ℕ
  pub signatures : List ℕ
  pub code_line : ℕ
  pub code : List ℕ

-- a job and the lines after it
abbrev pub JobAndRest : Type 0
JobAndRest = JobText × List BatchLine

-- a part of a job: its text, the number of the line after its end, and the lines from there on
abbrev pub PartText : Type 0
PartText = List ℕ × (ℕ × List BatchLine)

abbrev pub part_at_line : (Heading → Bool) → ℕ → List ℕ → List BatchLine → BatchLine → Result PartText Refusal
part_at_line closes job text ls l =
    if l.is_past then Err (TooLarge, l.number)
    else if closes l.heading then Ok (text, (l.number + 1, ls))
    else Err (UnfinishedJob, job)

abbrev pub part_at_end : (Heading → Bool) → ℕ → List ℕ → List BatchLine → Option BatchLine → Result PartText Refusal
part_at_end closes job text ls None = Err (UnfinishedJob, job)
part_at_end closes job text ls (Some l) = part_at_line closes job text ls l

-- a block as the part of the job of this JOB line whose own end is such a heading
abbrev pub part_in : (Heading → Bool) → ℕ → Block → Result PartText Refusal
part_in closes job b = part_at_end closes job b.text b.rest b.end

-- the job of these parts, with more code up to the END that follows
unfoldable pub job_from_code : JobText → List BatchLine → Result JobAndRest Refusal
job_from_code job ls =
    result_and_then (part_in is_end job.line (block_of is_end ls)) (λ part.
    Ok (record job { code = job.code ++ part.0 }, part.1.1))

-- the job of these signatures, with more of them up to the CODE that follows, and then its code
unfoldable pub job_from_signatures : JobText → List BatchLine → Result JobAndRest Refusal
job_from_signatures job ls =
    result_and_then (part_in is_code job.line (block_of ends_signatures ls)) (λ part.
    job_from_code (record job { signatures = job.signatures ++ part.0; code_line = part.1.0 }) part.1.1)

-- the job of this JOB line, whose signatures begin at this line, before either of its parts
abbrev pub job_without_parts : JobLine → ℕ → ℕ → JobText
job_without_parts head job first = record {
  head = head;
  line = job;
  signatures_line = first;
  signatures = [];
  code_line = first;
  code = [];
}

-- what the line in the place of SIGNATURES gives: the job from there on
abbrev pub job_at_line : JobLine → ℕ → BatchLine → List BatchLine → Result JobAndRest Refusal
job_at_line head job l ls =
    if l.is_past then Err (TooLarge, l.number)
    else if is_signatures l.heading then job_from_signatures (job_without_parts head job (l.number + 1)) ls
    else Err (BadJobLine, l.number)

-- the job of this JOB line, and the lines after its END
unfoldable pub whole_job : JobLine → ℕ → List BatchLine → Result JobAndRest Refusal
whole_job head job [] = Err (UnfinishedJob, job)
whole_job head job (l ∷ ls) = job_at_line head job l ls

-- ---- the batch

-- the lines from the first that isn't blank
unfoldable pub lines_behind_blanks : List BatchLine → List BatchLine
lines_behind_blanks [] = []
lines_behind_blanks (l ∷ ls) = if is_blank l.heading then lines_behind_blanks ls else l ∷ ls

abbrev pub head_or_refusal : ℕ → Option JobLine → Result JobLine Refusal
head_or_refusal number None = Err (BadJobLine, number)
head_or_refusal number (Some head) = Ok head

-- a line between jobs that isn't blank is a JOB line
abbrev pub head_of : BatchLine → Result JobLine Refusal
head_of l =
    if l.is_past then Err (TooLarge, l.number) else head_or_refusal l.number (job_line_of (batch_words l.text))

abbrev pub jobs_after : JobText → Result (List JobText) Refusal → Result (List JobText) Refusal
jobs_after job (Ok jobs) = Ok (job ∷ jobs)
jobs_after job (Err refusal) = Err refusal

-- no job may be here
abbrev pub no_job : List BatchLine → Result (List JobText) Refusal
no_job [] = Ok []
no_job (l ∷ ls) = result_and_then (head_of l) (λ head. Err (TooLarge, l.number))

-- a job, and what the lines after it give
abbrev pub job_and_later : (List BatchLine → Result (List JobText) Refusal) → Result JobAndRest Refusal
    → Result (List JobText) Refusal
job_and_later later r = result_and_then r (λ found. jobs_after found.0 (later found.1))

abbrev pub one_job : (List BatchLine → Result (List JobText) Refusal) → List BatchLine → Result (List JobText) Refusal
one_job later [] = Ok []
one_job later (l ∷ ls) = result_and_then (head_of l) (λ head. job_and_later later (whole_job head l.number ls))

-- what lines between jobs give, if `room` more jobs are allowed
unfoldable pub jobs_in : ℕ → List BatchLine → Result (List JobText) Refusal
jobs_in zero ls = no_job (lines_behind_blanks ls)
jobs_in (suc room) ls = one_job (jobs_in room) (lines_behind_blanks ls)

-- the rule of a batch, and its jobs
abbrev pub RuledJobs : Type 0
RuledJobs = Rule × List JobText

abbrev pub under : Rule → Result (List JobText) Refusal → Result RuledJobs Refusal
under rule (Ok jobs) = Ok (rule, jobs)
under rule (Err refusal) = Err refusal

-- the first line that isn't blank may give the second rule; jobs begin after it then, and else with it
abbrev pub batch_at : ℕ → List BatchLine → Result RuledJobs Refusal
batch_at room [] = Ok (First, [])
batch_at room (l ∷ ls) =
    if is_second_rule l.heading then under Second (jobs_in room ls) else under First (jobs_in room (l ∷ ls))

-- the rule and the jobs in all lines of a batch, of at most `room` jobs, or its refusal
unfoldable pub batch_in : ℕ → List BatchLine → Result RuledJobs Refusal
batch_in room ls = batch_at room (lines_behind_blanks ls)

-- the rule of a batch and its jobs, or its refusal
unfoldable pub jobs_of : List ℕ → Result RuledJobs Refusal
jobs_of input = batch_in MOST_JOBS (lines_of input)
