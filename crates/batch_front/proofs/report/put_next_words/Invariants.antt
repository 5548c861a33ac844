use Rattle.std.proofs.Common.{take}
use Rattle.std.specs.List.{flat_map}
use Rattle.batch_front.specs.Pages.{Puts}
use Rattle.batch_front.specs.Reports.{next_word_text}
use Rattle.batch_front.proofs.report.put_next_words.Given as goal

abbrev pub invariant-loop-word : goal.invariant-loop-word
invariant-loop-word g l =
    Puts g.W.Write.contents l.fn.page l.fn.writer l.page l.writer (flat_map (next_word_text l.kind)
    (take l.word-index l.words))
