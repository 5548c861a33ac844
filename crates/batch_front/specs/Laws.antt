-- What a job's lines of a report depend on.
use Rattle.std.specs.Prelude.{◌≡◌, ℕ, List, Option, Some, option_map, Ok}
use Rattle.vcode_base.specs.declared.rule.Rule.{Rule}
use Rattle.job_steps.specs.Standings.{of_job}
use Rattle.batch_reader.specs.declared.entry.Batch.TheVariants.{Jobs}
use Rattle.batch_reader.specs.Batches.{JobText, RuledJobs, jobs_of}
use Rattle.batch_reader.specs.Fates.{JobEntry, IsBatch, IsEntry}
use Rattle.batch_front.specs.Reports.{entry_text, ruled_entry}

-- two answers to the text of a job at one place under one rule have the same lines
abbrev pub OwnLines : Type 0
OwnLines =
    (region place : ℕ) (rule : Rule) (job : JobText) (first second : JobEntry) → IsEntry region job first →
    IsEntry region job second → entry_text place (ruled_entry rule first) ≡ entry_text place (ruled_entry rule second)

-- ---- in whole batches

-- a batch that isn't refused, and the text of its job at this place, counted from 1
abbrev pub HasJobAt : ℕ → List ℕ → JobText → Type 0
HasJobAt place input job = (batch : RuledJobs) × (jobs_of input ≡ Ok batch) × (of_job place batch.1 ≡ Some job)

-- the lines of the report on the job at this place
abbrev pub lines_at : ℕ → Rule → List JobEntry → Option (List ℕ)
lines_at place rule entries = option_map (λ entry. entry_text place (ruled_entry rule entry)) (of_job place entries)

-- two batches of one rule that have the same text of a job at the same place have the same lines on it
abbrev pub OwnLinesInBatches : Type 0
OwnLinesInBatches =
    (region place : ℕ) (rule : Rule) (job : JobText) (input other : List ℕ) (entries others : List JobEntry) →
    IsBatch region input (Jobs rule entries) → IsBatch region other (Jobs rule others) → HasJobAt place input job →
    HasJobAt place other job → lines_at place rule entries ≡ lines_at place rule others
