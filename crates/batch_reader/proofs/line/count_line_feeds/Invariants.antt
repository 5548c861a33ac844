use Rattle.std.proofs.Common.{◌≡◌, ◌+◌, length}
use Rattle.vcode_base.specs.Lines.{line_feeds}
use Rattle.batch_reader.proofs.line.count_line_feeds.Given as goal

abbrev pub invariant-pieces : goal.invariant-pieces
invariant-pieces l = record {
  counted : l.count + line_feeds l.rest ≡ line_feeds l.text;
}

abbrev pub decreases-pieces : goal.decreases-pieces
decreases-pieces l = length l.rest
