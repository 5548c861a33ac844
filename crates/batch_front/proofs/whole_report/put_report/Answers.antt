use Rattle.std.proofs.Common.{ap, length, ◌-◌}
use Rattle.batch_front.specs.Reports.{end_text}
use Rattle.batch_front.proofs.PageLemmas.{puts_same, puts_then}
use Rattle.batch_front.proofs.whole_report.put_report.Goals as goal

pub returns : goal.returns
returns g c =
    let reported = length c.args.reported.now in
    let end = puts_same {same = end_text reported (reported - length c.args.machine.now.tasks)} c.put_end.ensures
    (ap (λ jobs. end_text reported (reported - jobs)) c.jobs.ensures.count) in
    puts_then c.put_reported_jobs.ensures end
