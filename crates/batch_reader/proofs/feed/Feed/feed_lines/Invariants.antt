use Rattle.std.proofs.Common.{◌≡◌, length}
use Rattle.batch_reader.specs.Feeds.{HasComeIn}
use Rattle.batch_reader.proofs.feed.Feed.feed_lines.Given as goal

abbrev pub invariant-lines : goal.invariant-lines
invariant-lines g l = record {
  come : HasComeIn l.fn.self l.self l.piece l.rest;
  region : l.self.lines.region ≡ l.fn.self.lines.region;
}

abbrev pub decreases-lines : goal.decreases-lines
decreases-lines g l = length l.rest
