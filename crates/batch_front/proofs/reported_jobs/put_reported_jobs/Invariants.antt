use Rattle.std.proofs.Common.{take}
use Rattle.batch_front.specs.Pages.{Puts}
use Rattle.batch_front.specs.ReportedJobs.{reported_jobs_text}
use Rattle.batch_front.proofs.reported_jobs.put_reported_jobs.Given as goal

abbrev pub invariant-loop-place : goal.invariant-loop-place
invariant-loop-place g l =
    Puts g.W.Write.contents l.fn.page l.fn.writer l.page l.writer (reported_jobs_text l.machine.tasks 1
    (take l.place l.reported))
