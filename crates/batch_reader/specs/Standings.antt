-- The standing of a batch between two of its lines: the jobs that have ended, and what is known of an open one.
use Rattle.std.specs.Prelude.{◌≡◌, ◌≤◌, ◌+◌, ℕ, false, List, [], ◌∷◌, ◌++◌, Some, Result, Ok, Err}
use Rattle.vcode_base.specs.declared.limits.TheConstants.{MOST_JOBS}
use Rattle.vcode_base.specs.declared.rule.Rule.{Rule}
use Rattle.vcode_reader.specs.Reading.{ReaderState as CodeState, HasCome as CodeHasCome}
use Rattle.signatures.specs.Scan.{ReaderState as SignatureState, HasCome as SignaturesHaveCome}
use Rattle.signatures.specs.Signatures.{Signature}
use Rattle.job_steps.specs.Jobs.{IsName}
use Rattle.batch_reader.specs.declared.head.JobHeader.{JobHeader}
use Rattle.batch_reader.specs.declared.part.Part.{Part}
use Rattle.batch_reader.specs.declared.part.Part.TheVariants.{Reading, Refused as PartRefused}
use Rattle.batch_reader.specs.declared.stage.Stage.{Stage}
use Rattle.batch_reader.specs.declared.stage.Stage.TheVariants as stage
use Rattle.batch_reader.specs.declared.stage.StageStep.{StageStep}
use Rattle.batch_reader.specs.declared.stage.StageStep.TheVariants.{To, Ends, Begins}
use Rattle.batch_reader.specs.declared.batch_line.BatchLine.{BatchLine as CodeLine}
use Rattle.batch_reader.specs.Batches.{Refusal, JobText, job_from_code, job_from_signatures, whole_job, jobs_after}
use Rattle.batch_reader.specs.Batches.{RuledJobs, batch_in, job_and_later, jobs_in, under}
use Rattle.batch_reader.specs.Fates.{JobEntry, IsEntry, limits_within, signatures_of, signed_program_of}
use Rattle.batch_reader.specs.Blocks.{ends_signatures, is_end}
use Rattle.batch_reader.specs.Headings.{BatchLine, is_blank}
use Rattle.batch_reader.specs.declared.heading.Heading.{Heading}
use Rattle.batch_reader.specs.JobLines.{JobLine, job_line_of}
use Rattle.batch_reader.specs.Lines.{batch_words}

-- ---- in texts

-- before the first line that isn't blank; between jobs; after a JOB line; in a part of a job, whose text is known so
-- far; after a job's END; after what refuses the batch
pub data BatchStanding : Type 0 where
  Fresh : BatchStanding
  Between : BatchStanding
  Headed : (head : JobLine) (line : ℕ) → BatchStanding
  InSignatures : (job : JobText) → BatchStanding
  InCode : (job : JobText) → BatchStanding
  Ended : (job : JobText) → BatchStanding
  Refused : (refusal : Refusal) → BatchStanding

-- the answer to the lines from there on under this rule, in which that many more jobs may begin; the rule counts once
-- a line that isn't blank has come
abbrev pub jobs_from : Rule → ℕ → BatchStanding → List BatchLine → Result RuledJobs Refusal
jobs_from rule room Fresh ls = batch_in room ls
jobs_from rule room Between ls = under rule (jobs_in room ls)
jobs_from rule room (Headed head line) ls = under rule (job_and_later (jobs_in room) (whole_job head line ls))
jobs_from rule room (InSignatures job) ls = under rule (job_and_later (jobs_in room) (job_from_signatures job ls))
jobs_from rule room (InCode job) ls = under rule (job_and_later (jobs_in room) (job_from_code job ls))
jobs_from rule room (Ended job) ls = under rule (jobs_after job (jobs_in room ls))
jobs_from rule room (Refused refusal) ls = Err refusal

-- these jobs before others
abbrev pub jobs_behind : List JobText → Result RuledJobs Refusal → Result RuledJobs Refusal
jobs_behind jobs (Ok more) = Ok (more.0, jobs ++ more.1)
jobs_behind jobs (Err refusal) = Err refusal

-- `ended` jobs have ended and `room` more may begin, besides the open one
abbrev pub HasRoom : ℕ → ℕ → BatchStanding → Type 0
HasRoom ended room Fresh = ended + room ≡ MOST_JOBS
HasRoom ended room Between = ended + room ≡ MOST_JOBS
HasRoom ended room (Refused refusal) = ended ≤ MOST_JOBS
HasRoom ended room standing = (ended + 1) + room ≡ MOST_JOBS

-- ---- as it is kept

-- what is kept of the signatures of a job, and of its code
abbrev pub SignaturesPart : Type 0
SignaturesPart = Part SignatureState

abbrev pub CodePart : Type 0
CodePart = Part (List Signature × CodeState)

abbrev pub JobStage : Type 0
JobStage = Stage (List ℕ) SignatureState (List Signature × CodeState)

-- what is kept of a JOB line
pub record ShowsHead (kept : JobHeader (List ℕ)) (head : JobLine) (job : ℕ) : Type 0 where
  pub name : kept.name ≡ head.name
  pub limits : kept.limits ≡ head.limits
  pub line : kept.line ≡ job

-- a reader was fed the signature lines so far, unless the job's words refuse it
abbrev pub ShowsSignatures : ℕ → SignaturesPart → JobText → Type 0
ShowsSignatures region (Reading r) job =
    (limits_within region job.head.limits job.line ≡ Ok job.head.limits)
    × SignaturesHaveCome r job.signatures_line job.signatures
ShowsSignatures region (PartRefused line fault) job = limits_within region job.head.limits job.line ≡ Err (fault, line)

-- a reader was fed the code so far, if the signatures were read
pub record HasRead (region : ℕ) (known : List Signature) (r : CodeState) (job : JobText) : Type 0 where
  pub signatures : signatures_of region job ≡ Ok known
  pub first_line : r.first_line ≡ job.code_line
  pub code : CodeHasCome r job.code

-- a job with one line more of its signatures, with the line at which its code begins, and with one more of its code
abbrev pub with_signatures : JobText → List ℕ → JobText
with_signatures job text = record job { signatures = job.signatures ++ text }

abbrev pub with_code_line : JobText → ℕ → JobText
with_code_line job first = record job { code_line = first }

abbrev pub with_code : JobText → List ℕ → JobText
with_code job text = record job { code = job.code ++ text }

-- the job is refused, whatever code follows
abbrev pub ShowsCode : ℕ → CodePart → JobText → Type 0
ShowsCode region (Reading (signatures, r)) job = HasRead region signatures r job
ShowsCode region (PartRefused line fault) job =
    (more : List ℕ) → signed_program_of region (with_code job more) ≡ Err (fault, line)

-- what is kept is that of a standing
abbrev pub StageShows : ℕ → JobStage → BatchStanding → Type 0
StageShows region stage.Fresh Fresh = Unit {0}
StageShows region stage.Between Between = Unit {0}
StageShows region (stage.Headed kept) (Headed head line) = ShowsHead kept head line
StageShows region (stage.Signatures kept part) (InSignatures job) =
    ShowsHead kept job.head job.line × ShowsSignatures region part job × (job.code ≡ [])
StageShows region (stage.Code kept part) (InCode job) = ShowsHead kept job.head job.line × ShowsCode region part job
StageShows region (stage.Refused line fault) (Refused refusal) = refusal ≡ (fault, line)
StageShows region _ _ = ⊥

-- a line of this number, which isn't blank, says this job
pub record SaysJob (l : BatchLine) (head : JobLine) (line : ℕ) : Type 0 where
  pub within : l.is_past ≡ false
  pub other : is_blank l.heading ≡ false
  pub job : job_line_of (batch_words l.text) ≡ Some head
  pub number : l.number ≡ line

abbrev pub JobStep : Type 0
JobStep = StageStep JobStage JobEntry

abbrev pub ShowsStep : ℕ → JobStep → BatchStanding → Type 0
ShowsStep region (To s) standing = StageShows region s standing
ShowsStep region (Ends entry) (Ended job) = IsEntry region job entry
ShowsStep region (Ends entry) _ = ⊥
ShowsStep region (Begins rule s) standing = StageShows region s standing

-- the rule of a batch after a step
abbrev pub rule_by : JobStep → Rule → Rule
rule_by (Begins rule s) old = rule
rule_by _ old = old

abbrev pub shown_line : CodeLine → BatchLine
shown_line l = record { number = l.number; text = l.text.now; heading = l.heading; is_past = false }

-- this line leads from a standing to the one that the step shows: any lines after it give the same for both
pub record Turns (region ended room : ℕ) (standing : BatchStanding) (l : BatchLine) (s : JobStep) : Type 0 where
  pub room_behind : ℕ
  pub next : BatchStanding
  pub shown : ShowsStep region s next
  pub has_room : HasRoom ended room_behind next
  pub comes : (rule : Rule) (ls : List BatchLine)
      → jobs_from rule room standing (l ∷ ls) ≡ jobs_from (rule_by s rule) room_behind next ls

-- ---- what each stage may be

abbrev pub SignaturesFit : ℕ → SignaturesPart → Type 0
SignaturesFit place (Reading r) = r.failed ≡ false → r.scan.number ≤ place + 1
SignaturesFit place (PartRefused line fault) = Unit {0}

abbrev pub CodeFits : ℕ → CodePart → Type 0
CodeFits place (Reading (signatures, r)) = r.failed ≡ false → (r.scan.line ≤ place + 1) × (r.size ≤ place)
CodeFits place (PartRefused line fault) = Unit {0}

-- a job's name is one, and its readers have come no further than the first `place` bytes of the
-- batch
abbrev pub StageFits : ℕ → JobStage → Type 0
StageFits place (stage.Headed kept) = IsName kept.name
StageFits place (stage.Signatures kept part) = IsName kept.name × SignaturesFit place part
StageFits place (stage.Code kept part) = IsName kept.name × CodeFits place part
StageFits place _ = Unit {0}

abbrev pub StepFits : ℕ → JobStep → Type 0
StepFits place (To s) = StageFits place s
StepFits place (Ends entry) = Unit {0}
StepFits place (Begins rule s) = StageFits place s

-- a line of this heading is one more of the signatures or of the code
abbrev pub Stays : JobStage → Heading → Type 0
Stays (stage.Signatures kept part) h = ends_signatures h ≡ false
Stays (stage.Code kept part) h = is_end h ≡ false
Stays _ h = ⊥
