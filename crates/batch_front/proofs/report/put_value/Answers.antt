use Rattle.batch_front.specs.Reports.{kind_text}
use Rattle.std.proofs.Common.{◌∙◌}
use Rattle.batch_front.proofs.PageLemmas.{puts_same, puts_then}
use Rattle.batch_front.proofs.report.put_value.Goals as goal

pub returns : goal.returns
returns g c =
    let head = puts_same {same = kind_text c.args.value.now.kind} c.put.ensures
    (c.as_bytes.ensures.value ∙ c.kind_text.ensures) in
    puts_then (puts_then (puts_then head c.put-2.ensures) c.put_words.ensures) c.put-3.ensures
