use Rattle.std.proofs.Common.{◌≤◌, length}
use Rattle.std.specs.Prelude.{All}
use Rattle.vcode_base.specs.declared.limits.TheConstants.{MOST_JOBS}
use Rattle.worked_runs.proofs.machines.jobs.Given as goal

abbrev pub invariant-loop-entry : goal.invariant-loop-entry
invariant-loop-entry g l = record {
  few : length l.jobs.items ≤ MOST_JOBS;
  words : All (λ job. job.limits.words ≤ l.fn.most) l.jobs.items;
}
