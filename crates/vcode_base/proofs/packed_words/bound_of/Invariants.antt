use Rattle.std.proofs.Common.{◌≤◌, ◌<◌, ℕ, ℤ, get_or}
use Rattle.vcode_base.specs.PackedWords.{magnitude}
use Rattle.vcode_base.proofs.packed_words.bound_of.Given as goal

abbrev pub invariant-loop-word : goal.invariant-loop-word
invariant-loop-word l = (k : ℕ) (d : ℤ) → k < l.word-index → magnitude (get_or l.words k d) ≤ l.bits
