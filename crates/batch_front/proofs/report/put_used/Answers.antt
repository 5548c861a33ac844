use Rattle.batch_front.proofs.PageLemmas.{puts_then}
use Rattle.batch_front.proofs.report.put_used.Goals as goal

pub returns : goal.returns
returns g c =
    puts_then (puts_then (puts_then c.put.ensures c.put_count.ensures) c.put_count-2.ensures) c.put-2.ensures
