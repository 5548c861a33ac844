use Rattle.std.proofs.Common.{◌≡◌}
use Rattle.batch_front.specs.ReportedJobs.{AreReportedOf, tasks_of}
use Rattle.batch_front.proofs.reported_jobs.reported_jobs.Given as goal

abbrev pub invariant-loop-entry : goal.invariant-loop-entry
invariant-loop-entry g l = record {
  reported : AreReportedOf l.jobs.items l.reported.items l.yielded;
  jobs : l.jobs.items ≡ tasks_of l.yielded;
}
