use Rattle.std.proofs.Common.{◌≡◌, ◌∷◌, ◌∙◌, get_or, drop, pos, ap, arith, rules, w64, FitsSigned}
use Rattle.std.proofs.Math.Facts.{to_z-of_z}
use Rattle.std.proofs.lemmas.List.{drop_more, get_or-take}
use Rattle.batch_front.specs.Reports.{word_text}
use Rattle.batch_front.proofs.PageLemmas.{puts_same, puts_then}
use Rattle.batch_front.proofs.ReportLemmas.{words_joined}
use Rattle.batch_front.proofs.report.put_words.Goals as goal

pub returns : goal.returns
returns g c =
    let words = c.args.words.now in
    let first = get_or words 0 (pos 0) in
    let copied = get_or c.copy_from.new.into 0 (pos 0) in
    let fits : FitsSigned w64 copied = search rules in
    let same : copied ≡ first = ap (λ ws. get_or ws 0 (pos 0)) c.copy_from.ensures
    ∙ get_or-take 1 words 0 (pos 0) (omega arith) in
    let put = puts_same (rw (to_z-of_z fits) at c.put_word.ensures) (ap (word_text c.args.kind) same) in
    let whole : words ≡ first ∷ drop 1 words = drop_more words 0 (pos 0) (omega arith) in
    puts_same (puts_then put c.put_other_words.ensures) (words_joined c.args.kind words (drop 1 words) first whole)
