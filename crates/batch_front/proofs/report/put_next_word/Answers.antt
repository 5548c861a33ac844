use Rattle.std.proofs.Common.{rules, ap, w64, FitsSigned}
use Rattle.std.proofs.Math.Facts.{to_z-of_z}
use Rattle.batch_front.specs.Reports.{word_text}
use Rattle.batch_front.proofs.PageLemmas.{puts_same, puts_then}
use Rattle.batch_front.proofs.report.put_next_word.Goals as goal

pub returns : goal.returns
returns g c =
    let fits : FitsSigned w64 c.args.word = search rules in
    let word = puts_same {same = word_text c.args.kind c.args.word} c.put_word.ensures
    (ap (word_text c.args.kind) (to_z-of_z fits)) in
    puts_then c.put.ensures word
