-- What becomes of a job of a batch before it runs, and the answer to a batch.
use Rattle.std.specs.Prelude.{◌≡◌, ◌≤◌, ℕ, nat_lt, if◌then◌else◌, List, [], ◌∷◌, Option, Some, None, Result, Ok, Err}
use Rattle.vcode_base.specs.declared.limits.Limits.{Limits}
use Rattle.vcode_reader.specs.Reading.{reading as code_reading}
use Rattle.vcode_reader.specs.Trees.{Program}
use Rattle.signatures.specs.Reading.{reading as signatures_reading}
use Rattle.signatures.specs.Signatures.{Signature}
use Rattle.verifier.specs.First.{kind_fault}
use Rattle.verifier.specs.Faults.{Fault}
use Rattle.verifier.specs.Typed.{IsVerifiedBy}
use Rattle.job_steps.specs.States.{JobValue}
use Rattle.batch_reader.specs.declared.fault.JobFault.{JobFault}
use Rattle.batch_reader.specs.declared.fault.JobFault.TheVariants.{WordsPastRegion, Sig, Read, Kind}
use Rattle.batch_reader.specs.declared.entry.Batch.{Batch}
use Rattle.batch_reader.specs.declared.entry.Batch.TheVariants.{Refused as BatchRefused, Jobs}
use Rattle.batch_reader.specs.declared.entry.Entry.{Entry}
use Rattle.batch_reader.specs.declared.entry.Fate.{Fate}
use Rattle.batch_reader.specs.declared.entry.Fate.TheVariants.{Ready, Refused}
use Rattle.batch_reader.specs.Batches.{JobText, jobs_of}
use Rattle.batch_reader.specs.Chains.{result_and_then}

-- what refuses one job, and its line
abbrev pub JobRefusal : Type 0
JobRefusal = JobFault × ℕ

-- ---- the first refusal of a job

-- a job is refused for a fault of a part of it, at that fault's line
abbrev pub refusal_by : {A F : Type 0} → (F → JobFault) → Result A (F × ℕ) → Result A JobRefusal
refusal_by job_fault (Ok found) = Ok found
refusal_by job_fault (Err fault) = Err (job_fault fault.0, fault.1)

-- the limits of the job of this JOB line, if its words are no more than the region's
unfoldable pub limits_within : ℕ → Limits → ℕ → Result Limits JobRefusal
limits_within region limits job = if nat_lt region limits.words then Err (WordsPastRegion, job) else Ok limits

-- its signatures, if its words are within the region
unfoldable pub signatures_of : ℕ → JobText → Result (List Signature) JobRefusal
signatures_of region job =
    result_and_then (limits_within region job.head.limits job.line) (λ limits.
    refusal_by Sig (signatures_reading job.signatures_line job.signatures))

-- signatures and a program
abbrev pub SignedProgram : Type 0
SignedProgram = List Signature × Program

abbrev pub signed_or_fault : SignedProgram → Option Fault → Result SignedProgram JobRefusal
signed_or_fault signed None = Ok signed
signed_or_fault signed (Some fault) = Err (Kind fault.0, fault.1)

-- a program of these signatures, if it is well kinded
abbrev pub kinded_program : List Signature → Program → Result SignedProgram JobRefusal
kinded_program signatures program = signed_or_fault (signatures, program) (kind_fault signatures program)

-- a job's signatures and its program: the words come first, then the signatures, then the code, then the kinds
unfoldable pub signed_program_of : ℕ → JobText → Result SignedProgram JobRefusal
signed_program_of region job =
    result_and_then (signatures_of region job) (λ signatures.
    result_and_then (refusal_by Read (code_reading job.code_line job.code)) (kinded_program signatures))

-- ---- fates

-- the job runs the program of its text, which its signatures make well kinded, within its limits and the region
pub record IsReady (region : ℕ) (job : JobText) (ready : JobValue) : Type 0 where
  pub signatures : List Signature
  pub program : signed_program_of region job ≡ Ok (signatures, ready.verified.program)
  pub verified : IsVerifiedBy signatures ready.verified
  pub name : ready.name ≡ job.head.name
  pub limits : ready.limits ≡ job.head.limits
  pub words : ready.limits.words ≤ region

abbrev pub IsFate : ℕ → JobText → Fate JobValue → Type 0
IsFate region job (Ready ready) = IsReady region job ready
IsFate region job (Refused line fault) = signed_program_of region job ≡ Err (fault, line)

-- a job's name with its fate
abbrev pub JobEntry : Type 0
JobEntry = Entry (List ℕ) (Fate JobValue)

pub record IsEntry (region : ℕ) (job : JobText) (entry : JobEntry) : Type 0 where
  pub name : entry.name ≡ job.head.name
  pub fate : IsFate region job entry.fate

-- one for each job, in order
abbrev pub AreEntries : ℕ → List JobText → List JobEntry → Type 0
AreEntries region [] [] = Unit {0}
AreEntries region [] (entry ∷ entries) = ⊥
AreEntries region (job ∷ jobs) [] = ⊥
AreEntries region (job ∷ jobs) (entry ∷ entries) = IsEntry region job entry × AreEntries region jobs entries

-- the answer to a batch over a region of `region` words
abbrev pub IsBatch : ℕ → List ℕ → Batch (List JobEntry) → Type 0
IsBatch region input (BatchRefused line fault) = jobs_of input ≡ Err (fault, line)
IsBatch region input (Jobs rule entries) =
    (jobs : List JobText) × (jobs_of input ≡ Ok (rule, jobs)) × AreEntries region jobs entries
