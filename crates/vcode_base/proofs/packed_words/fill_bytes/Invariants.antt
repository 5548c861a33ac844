use Rattle.std.proofs.Common.{◌≡◌, take}
use Rattle.vcode_base.proofs.packed_words.fill_bytes.Given as goal

abbrev pub invariant-loop-i : goal.invariant-loop-i
invariant-loop-i l = take l.i l.out ≡ take l.i l.words
