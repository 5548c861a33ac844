use Rattle.std.proofs.Common.{rules}
use Rattle.batch_front.proofs.PageLemmas.{puts_same, puts_then}
use Rattle.batch_front.proofs.report.put_fault.Goals as goal

pub returns : goal.returns
returns g c =
    let name = puts_same {same = c.args.name.now} c.put-4.ensures (search rules) in
    puts_then (puts_then (puts_then (puts_then (puts_then c.put.ensures c.put-2.ensures) c.put_number.ensures)
    c.put-3.ensures) name)
    c.put-5.ensures
