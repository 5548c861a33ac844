use Rattle.std.proofs.Common.{arith}
use Rattle.worked_feeds.proofs.codes.CodeReaderRefLocalHeapReader.take.Goals as goal

pub feed-requires : goal.feed-requires
feed-requires c = record {
  line = λ live.
      let room = rw live at c.requires in omega (arith, room, c.line_feeds_are_few.ensures c.args.piece.now);
  size = λ live. let room = rw live at c.requires in omega (arith, room);
}
