use Rattle.std.proofs.Common.{ap, arith, get_or, pos, rules, w64, FitsSigned}
use Rattle.std.proofs.Math.Facts.{to_z-of_z}
use Rattle.std.proofs.lemmas.Grind.{common_steps}
use Rattle.batch_front.specs.Reports.{next_word_text}
use Rattle.batch_front.proofs.PageLemmas.{puts_more, puts_same}
use Rattle.batch_front.proofs.report.put_next_words.Goals as goal

pub loop-word-preserved : goal.loop-word-preserved
loop-word-preserved g c =
    let word = get_or c.args.words.now c.loop-word.word-index (pos 0) in
    let fits : FitsSigned w64 word = search rules in
    let put = puts_same {same = next_word_text c.args.kind word} c.put_next_word.ensures
    (ap (next_word_text c.args.kind) (to_z-of_z fits)) in
    puts_more (next_word_text c.args.kind) c.args.words.now c.loop-word.word-index word (grind (arith, common_steps))
    (grind (arith, common_steps)) c.loop-word.invariant put
