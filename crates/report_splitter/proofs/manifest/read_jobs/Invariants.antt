use Rattle.std.proofs.Common.{◌≡◌, ◌<◌, ◌^◌, List, length}
use Rattle.std.specs.Prelude.{All}
use Rattle.report_splitter.specs.Manifests.{IsPackedText, PackedText, job_entries}
use Rattle.report_splitter.proofs.ManifestLemmas.{IsRead}
use Rattle.report_splitter.proofs.manifest.read_jobs.Given as goal

abbrev pub invariant-loop-entry : goal.invariant-loop-entry
invariant-loop-entry g l =
    (jobs : List PackedText) → All IsPackedText jobs → length jobs < 2 ^ 64 → l.fn.entries ≡ job_entries 1 jobs
    → IsRead l.jobs.items l.rest jobs

abbrev pub decreases-loop-entry : goal.decreases-loop-entry
decreases-loop-entry g l = length l.rest
