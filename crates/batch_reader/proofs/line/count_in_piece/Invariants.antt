use Rattle.std.proofs.Common.{◌≡◌, take}
use Rattle.vcode_base.specs.Lines.{line_feeds}
use Rattle.batch_reader.proofs.line.count_in_piece.Given as goal

abbrev pub invariant-loop-byte : goal.invariant-loop-byte
invariant-loop-byte l = l.count ≡ line_feeds (take l.byte-index l.piece)
