use Rattle.std.proofs.Common.{arith}
use Rattle.batch_reader.proofs.CodeTexts.{feeds_of_parts}
use Rattle.batch_reader.proofs.line.count_line_feeds.Goals as goal

pub pieces-preserved : goal.pieces-preserved
pieces-preserved c = record { counted = grind (arith, feeds_of_parts 224 c.pieces.rest.now) }
