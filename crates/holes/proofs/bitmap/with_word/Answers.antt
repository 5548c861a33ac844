use Rattle.std.proofs.Common.{arith}
use Rattle.std.specs.Int.{w64}
use Rattle.std.proofs.lemmas.Nat.Bits.{bit_at_set_same, bit_at_set_other, bit_at_clear_same, bit_at_clear_other}
use Rattle.holes.proofs.bitmap.with_word.Goals as goal

pub returns-then-value : goal.returns-then-value
returns-then-value c =
    let here = bit_at_set_same w64 c.args.bits c.args.word c.requires in
    let others = bit_at_set_other w64 c.args.bits c.args.word c.requires in
    grind arith

pub returns-else-value : goal.returns-else-value
returns-else-value c =
    let here = bit_at_clear_same w64 c.args.bits c.args.word c.requires in
    let others = bit_at_clear_other w64 c.args.bits c.args.word c.requires in
    grind arith
