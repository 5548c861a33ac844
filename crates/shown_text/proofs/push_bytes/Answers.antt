use Rattle.std.proofs.Common.{add-one, append_assoc, arith, drop-cons}
use Rattle.std.proofs.lemmas.Str.{encodes-append}
use Rattle.shown_text.proofs.push_bytes.Goals as goal

pub loop-byte-preserved : goal.loop-byte-preserved
loop-byte-preserved g c = grind (arith, append_assoc, add-one, drop-cons, encodes-append)
