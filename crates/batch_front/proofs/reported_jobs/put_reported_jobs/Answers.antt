use Rattle.std.proofs.Common.{arith}
use Rattle.std.proofs.lemmas.Grind.{common_steps}
use Rattle.batch_front.proofs.PageLemmas.{puts_same, puts_then}
use Rattle.batch_front.proofs.ReportedJobLemmas.{reported_with_one}
use Rattle.batch_front.proofs.reported_jobs.put_reported_jobs.Goals as goal

pub loop-place-preserved : goal.loop-place-preserved
loop-place-preserved g c =
    puts_same (puts_then c.loop-place.invariant c.put_reported_job.ensures)
    (reported_with_one c.args.machine.now.tasks c.args.reported.now c.loop-place.place c.index-reported-place.result
    (grind (arith, common_steps)) (grind (arith, common_steps)))
