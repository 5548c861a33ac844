use Rattle.std.proofs.Common.{length, take, drop, ap, arith}
use Rattle.std.proofs.lemmas.List.{take_all}
use Rattle.std.specs.List.{flat_map}
use Rattle.batch_front.specs.Reports.{next_word_text}
use Rattle.batch_front.proofs.PageLemmas.{puts_same, puts_then}
use Rattle.batch_front.proofs.ReportLemmas.{more_within, more_words}
use Rattle.batch_front.proofs.report.put_other_words.Goals as goal

pub words-preserved : goal.words-preserved
words-preserved g c =
    let words = c.args.words.now in
    let room = length (take c.min.result c.words.room) in
    let before = c.words.invariant in
    record {
      first = omega arith;
      within = more_within words c.copy_from.new.into c.words.done room before.within c.copy_from.ensures;
      put = puts_same (puts_then before.put c.put_next_words.ensures)
          (more_words (next_word_text c.args.kind) words c.copy_from.new.into c.words.done room before.first
          before.within
          c.copy_from.ensures);
    }

pub returns : goal.returns
returns g c =
    puts_same c.words.invariant.put
    (ap (λ words. flat_map (next_word_text c.args.kind) (drop 1 words))
    (take_all c.words.done c.args.words.now (omega arith)))
