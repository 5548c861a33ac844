use Rattle.std.proofs.Common.{◌≡◌, ◌<◌, ℕ, pos, get_or}
use Rattle.vcode_base.specs.PackedWords.{high_of}
use Rattle.vcode_base.proofs.packed_words.fill_highs.Given as goal

abbrev pub invariant-loop-i : goal.invariant-loop-i
invariant-loop-i l = (k : ℕ) → k < l.i → get_or l.out k 0 ≡ high_of (get_or l.words k (pos 0))
