-- What is kept of files and of batches, and why a file isn't packed.
use Rattle.std.specs.Prelude.{◌≡◌, ◌+◌, ◌≤◌, ℕ, nat_lt, nat_le, Bool, true, false, ◌&&◌, ◌-◌, List, [], ◌∷◌, length}
use Rattle.std.specs.Prelude.{All, Result, Ok, Err}
use Rattle.vcode_base.specs.declared.limits.TheConstants.{MOST_BATCH_BYTES, MOST_JOBS}
use Rattle.vcode_base.specs.declared.rule.Rule.{Rule}
use Rattle.vcode_base.specs.declared.rule.Rule.TheVariants.{First, Second}
use Rattle.vcode_base.specs.Lines.{line_feeds}
use Rattle.batch_reader.specs.Batches.{JobText, jobs_of}
use Rattle.batch_reader.specs.Fates.{SignedProgram, signed_program_of}
use Rattle.batch_packer.specs.declared.fault.PackFault.{PackFault}
use Rattle.batch_packer.specs.declared.fault.PackFault.TheVariants.{Memory, Batch, NoJob, ManyJobs, Job}
use Rattle.batch_packer.specs.Joins.{IsOneJob, OneJob, joined}

-- ---- files

-- a file as it goes into a batch
pub record FileState : Type 0 where
  pub rule : Rule
  pub name : List ℕ
  pub text : List ℕ

-- these are one job, which may run in a region of this size
pub record IsRunnable (region : ℕ) (jobs : List JobText) : Type 0 where
  pub job : JobText
  pub only : jobs ≡ job ∷ []
  pub program : SignedProgram
  pub runs : signed_program_of region job ≡ Ok program

-- the same, and this is its name
pub record IsNamedRunnable (region : ℕ) (jobs : List JobText) (name : List ℕ) : Type 0 where
  pub runnable : IsRunnable region jobs
  pub name_is : name ≡ runnable.job.head.name

-- these jobs are refused as a file
abbrev pub RefusesJobs : ℕ → List JobText → PackFault → Type 0
RefusesJobs region jobs NoJob = jobs ≡ []
RefusesJobs region jobs ManyJobs = (first : JobText) × (second : JobText) × (more : List JobText)
    × (jobs ≡ first ∷ second ∷ more)
RefusesJobs region jobs (Job line fault) =
    (job : JobText) × (jobs ≡ job ∷ []) × (signed_program_of region job ≡ Err (fault, line))
RefusesJobs region jobs (Batch line fault) = ⊥
RefusesJobs region jobs Memory = ⊥

-- the file is a batch of this rule and of exactly one job, which may run
pub record HoldsJob (region : ℕ) (bytes : List ℕ) (rule : Rule) : Type 0 where
  pub jobs : List JobText
  pub is_batch : jobs_of bytes ≡ Ok (rule, jobs)
  pub runnable : IsRunnable region jobs

-- the same, and this is the name of that job
pub record HoldsNamed (region : ℕ) (bytes : List ℕ) (rule : Rule) (name : List ℕ) : Type 0 where
  pub holds : HoldsJob region bytes rule
  pub name_is : name ≡ holds.runnable.job.head.name

-- the file is refused: as a batch at this line, or for its jobs; or memory was refused
abbrev pub RefusesFile : ℕ → List ℕ → PackFault → Type 0
RefusesFile region bytes Memory = Unit {0}
RefusesFile region bytes (Batch line fault) = jobs_of bytes ≡ Err (fault, line)
RefusesFile region bytes fault =
    (rule : Rule) × (jobs : List JobText) × (jobs_of bytes ≡ Ok (rule, jobs)) × RefusesJobs region jobs fault

-- ---- batches

-- a batch that files are joined to, and how many
pub record PackState : Type 0 where
  pub rule : Rule
  pub jobs : ℕ
  pub bytes : List ℕ

-- it is within the limits of a batch
pub record IsWithin (jobs lines : ℕ) (bytes : List ℕ) : Type 0 where
  pub few : jobs ≤ MOST_JOBS
  pub short : length bytes ≤ MOST_BATCH_BYTES
  pub lines_are : lines ≡ line_feeds bytes
  pub lines_few : lines ≤ length bytes

abbrev pub same_rule : Rule → Rule → Bool
same_rule First First = true
same_rule Second Second = true
same_rule _ _ = false

-- one file more of this rule fits into the batch
abbrev pub has_room : PackState → FileState → Bool
has_room p f =
    same_rule p.rule f.rule && nat_lt p.jobs MOST_JOBS && nat_le (length f.text) (MOST_BATCH_BYTES - length p.bytes)

-- the batch is that of these files, each of which is one job
pub record IsPack (p : PackState) (files : List OneJob) : Type 0 where
  pub bytes : p.bytes ≡ joined p.rule files
  pub jobs : p.jobs ≡ length files
  pub one_each : All (IsOneJob p.rule) files
