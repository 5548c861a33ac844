use Rattle.batch_front.proofs.PageLemmas.{puts_then}
use Rattle.batch_front.proofs.report.put_job.Goals as goal

pub returns : goal.returns
returns g c =
    puts_then (puts_then (puts_then (puts_then c.put.ensures c.put_number.ensures) c.put-2.ensures) c.put-3.ensures)
    c.put-4.ensures
