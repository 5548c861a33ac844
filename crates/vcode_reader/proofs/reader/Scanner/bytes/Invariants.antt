use Rattle.std.proofs.Common.{◌≡◌, ◌+◌, ◌<◌, ◌^◌, length}
use Rattle.vcode_reader.specs.Parsing.{take}
use Rattle.vcode_base.specs.Lines.{line_feeds}
use Rattle.vcode_reader.specs.Room.{FitsText}
use Rattle.vcode_reader.specs.Scan.{scan_all}
use Rattle.vcode_reader.proofs.reader.Scanner.bytes.Given as goal

abbrev pub invariant-text : goal.invariant-text
invariant-text g l = record {
  room : l.self.line + line_feeds l.rest < 2 ^ 64;
  fits : FitsText l.self l.rest;
  same : scan_all take l.fn.self l.piece ≡ scan_all take l.self l.rest;
}

abbrev pub decreases-text : goal.decreases-text
decreases-text g l = length l.rest
