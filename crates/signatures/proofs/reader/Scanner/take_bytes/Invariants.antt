use Rattle.std.proofs.Common.{◌≡◌, ◌+◌, ◌<◌, ◌^◌, drop}
use Rattle.vcode_base.specs.Lines.{line_feeds}
use Rattle.signatures.specs.Scan.{scan_after_bytes}
use Rattle.signatures.proofs.reader.Scanner.take_bytes.Given as goal

abbrev pub invariant-loop-byte : goal.invariant-loop-byte
invariant-loop-byte g l = record {
  room : l.self.number + line_feeds (drop l.byte-index l.piece) < 2 ^ 64;
  same : scan_after_bytes l.initial.self l.piece ≡ scan_after_bytes l.self (drop l.byte-index l.piece);
}
