-- The batch of files of one job each is these jobs.
use Rattle.std.specs.Prelude.{◌≡◌, ◌≤◌, List, length, All, Ok}
use Rattle.vcode_base.specs.declared.limits.TheConstants.{MOST_BATCH_BYTES, MOST_JOBS}
use Rattle.vcode_base.specs.declared.rule.Rule.{Rule}
use Rattle.batch_reader.specs.Batches.{jobs_of}
use Rattle.batch_packer.specs.Joins.{IsOneJob, OneJob, joined, joined_jobs}

-- where each file is one job and the sizes fit, the batch of the files is these jobs in order
abbrev pub JoinedJobs : Type 0
JoinedJobs =
    (rule : Rule) (files : List OneJob) → All (IsOneJob rule) files → length files ≤ MOST_JOBS
    → length (joined rule files) ≤ MOST_BATCH_BYTES → jobs_of (joined rule files) ≡ Ok (rule, joined_jobs rule files)
