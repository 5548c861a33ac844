use Rattle.std.proofs.Common.{arith, rules}
use Rattle.report_splitter.proofs.ManifestLemmas.{all_read, next_read, read_none}
use Rattle.report_splitter.proofs.manifest.read_jobs.Goals as goal

pub loop-entry-init : goal.loop-entry-init
loop-entry-init g c = search (rules, read_none)

pub returns-in_err-push_job : goal.returns-in_err-push_job
returns-in_err-push_job g c jobs are small is =
    let next = next_read _ jobs _ _ _ small (c.loop-entry.invariant jobs are small is) c.in-Some.ensures in
    search rules

pub loop-entry-preserved : goal.loop-entry-preserved
loop-entry-preserved g c jobs are small is =
    let next = next_read _ jobs _ _ _ small (c.loop-entry.invariant jobs are small is) c.in-Some.ensures in
    search rules

pub returns-then-is_empty : goal.returns-then-is_empty
returns-then-is_empty g c jobs are small is = grind (arith, all_read)

pub returns : goal.returns
returns g c jobs are small is = grind (arith, all_read)
