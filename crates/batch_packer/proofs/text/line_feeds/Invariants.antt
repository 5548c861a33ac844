use Rattle.std.proofs.Common.{◌≡◌, ◌+◌, ◌≤◌, drop}
use Rattle.vcode_base.specs.Lines.{line_feeds}
use Rattle.batch_packer.proofs.text.line_feeds.Given as goal

abbrev pub invariant-loop-byte : goal.invariant-loop-byte
invariant-loop-byte l = record {
  counted : l.count + line_feeds (drop l.byte-index l.text) ≡ line_feeds l.text;
  few : l.count ≤ l.byte-index;
}
