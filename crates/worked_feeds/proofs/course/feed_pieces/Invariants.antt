use Rattle.std.proofs.Common.{◌<◌, length}
use Rattle.worked_feeds.proofs.course.feed_pieces.Given as goal

abbrev pub invariant-pieces : goal.invariant-pieces
invariant-pieces g l = length l.rest < g.R.Reader.room l.reader
