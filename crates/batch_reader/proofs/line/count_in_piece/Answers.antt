use Rattle.std.proofs.Common.{◌+◌, arith}
use Rattle.batch_reader.proofs.CodeTexts.{feeds_taken, few_feeds_taken}
use Rattle.batch_reader.proofs.line.count_in_piece.Goals as goal

pub overflow_add-count : goal.overflow_add-count
overflow_add-count c =
    grind (arith, few_feeds_taken (c.loop-byte.byte-index + 1) c.args.piece.now, feeds_taken)
