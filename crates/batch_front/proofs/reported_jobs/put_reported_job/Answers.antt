use Rattle.std.proofs.Common.{ap}
use Rattle.batch_front.specs.Reports.{job_text}
use Rattle.batch_front.proofs.PageLemmas.{puts_same, puts_then}
use Rattle.batch_front.proofs.reported_jobs.put_reported_job.Goals as goal

pub returns : goal.returns
returns g c =
    let job = puts_same {same = job_text c.args.number c.args.reported_job.now.name} c.put_job.ensures
    (ap (job_text c.args.number) c.as_slice.ensures) in
    puts_then job c.put_fate.ensures
