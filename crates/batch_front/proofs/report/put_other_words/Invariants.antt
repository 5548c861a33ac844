use Rattle.std.proofs.Common.{◌≤◌, ◌-◌, take, drop, length}
use Rattle.std.specs.List.{flat_map}
use Rattle.batch_front.specs.Pages.{Puts}
use Rattle.batch_front.specs.Reports.{next_word_text}
use Rattle.batch_front.proofs.report.put_other_words.Given as goal

-- the words before this place are put, but for the first
abbrev pub invariant-words : goal.invariant-words
invariant-words g l = record {
  first : 1 ≤ l.done;
  within : l.done ≤ length l.words;
  put : Puts g.W.Write.contents l.fn.page l.fn.writer l.page l.writer
      (flat_map (next_word_text l.kind) (drop 1 (take l.done l.words)));
}

abbrev pub decreases-words : goal.decreases-words
decreases-words g l = length l.words - l.done
