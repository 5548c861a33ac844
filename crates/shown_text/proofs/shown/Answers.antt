use Rattle.std.proofs.Common.{append_assoc, append-nil, arith}
use Rattle.shown_text.proofs.Pieces.{shown_chunk_bytes, shown_text_empty}
use Rattle.shown_text.proofs.shown.Goals as goal

pub loop-chunk-preserved : goal.loop-chunk-preserved
loop-chunk-preserved g c = grind (arith, shown_chunk_bytes, append_assoc)

pub returns : goal.returns
returns g c = grind (arith, append-nil, shown_text_empty)
