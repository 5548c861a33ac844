use Rattle.std.proofs.Common.{◌≡◌, ◌≤◌, false}
use Rattle.holes.specs.FreeWords.{hole_count}
use Rattle.holes.specs.Tree.{words_from, word_at}
use Rattle.holes.proofs.Ranges.{last_of}
use Rattle.holes.proofs.tree.count.Given as goal

abbrev pub invariant-loop-word : goal.invariant-loop-word
invariant-loop-word l = record {
  count : l.count ≡ hole_count (words_from (word_at l.bits) 0 l.word);
  before : l.before ≡ last_of false (words_from (word_at l.bits) 0 l.word);
  within : l.count ≤ l.word;
}
