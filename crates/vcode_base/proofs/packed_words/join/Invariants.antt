use Rattle.std.proofs.Common.{◌≡◌, ◌<◌, ℕ, pos, get_or}
use Rattle.vcode_base.specs.PackedWords.{three_byte_word}
use Rattle.vcode_base.proofs.packed_words.join.Given as goal

abbrev pub invariant-loop-i : goal.invariant-loop-i
invariant-loop-i l = (k : ℕ) → k < l.i → get_or l.out k (pos 0)
    ≡ three_byte_word (get_or l.highs k 0) (get_or l.lows k 0)
