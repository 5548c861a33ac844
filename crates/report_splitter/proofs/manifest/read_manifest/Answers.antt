use Rattle.std.proofs.Common.{arith}
use Rattle.report_splitter.specs.Manifests.{batch_words, job_entries}
use Rattle.report_splitter.proofs.ManifestLemmas.{seal_first}
use Rattle.report_splitter.proofs.SplitLemmas.{not_apart}
use Rattle.report_splitter.proofs.manifest.read_manifest.Goals as goal

pub returns-in_default-clause-read : goal.returns-in_default-clause-read
returns-in_default-clause-read g c seal jobs t are sum is =
    absurd (not_apart 0 _ (batch_words seal) (job_entries 1 jobs) c.in_default.ensures is)

pub returns-in_default-batch_of-clause-read : goal.returns-in_default-batch_of-clause-read
returns-in_default-batch_of-clause-read g c seal jobs t are sum is =
    absurd (c.in_default-batch_of.ensures seal t (seal_first seal jobs _ _ _ t c.in-Some.ensures is).0)

pub returns-in_err-jobs-clause-read : goal.returns-in_err-jobs-clause-read
returns-in_err-jobs-clause-read g c seal jobs t are sum is =
    let first = seal_first seal jobs _ _ _ t c.in-Some.ensures is in
    grind (arith, c.in_err-jobs.ensures jobs are)

pub returns-then-len-jobs-clause-read : goal.returns-then-len-jobs-clause-read
returns-then-len-jobs-clause-read g c seal jobs t are sum is =
    let first = seal_first seal jobs _ _ _ t c.in-Some.ensures is in
    (c.in-Some-batch_of.ensures seal t first.0, c.in_ok-jobs.ensures jobs are (omega (arith, t.jobs_fit)) first.1)

pub returns-clause-read : goal.returns-clause-read
returns-clause-read g c seal jobs t are sum is =
    let first = seal_first seal jobs _ _ _ t c.in-Some.ensures is in
    let read = c.in_ok-jobs.ensures jobs are (omega (arith, t.jobs_fit)) first.1 in
    let sealed = c.in-Some-batch_of.ensures seal t first.0 in
    absurd (grind arith)
