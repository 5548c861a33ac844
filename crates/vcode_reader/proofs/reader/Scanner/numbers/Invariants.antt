use Rattle.std.proofs.Common.{◌≡◌, ◌+◌, ◌^◌, ◌<◌, ◌≤◌, length, None, true}
use Rattle.vcode_base.specs.Lines.{line_feeds}
use Rattle.vcode_reader.specs.Ahead.{awaits_number}
use Rattle.vcode_reader.specs.Parsing.{take}
use Rattle.vcode_reader.specs.Scan.{scan_all}
use Rattle.vcode_reader.proofs.reader.Scanner.numbers.Given as goal

abbrev pub invariant-numbers : goal.invariant-numbers
invariant-numbers g l = record {
  text : l.self.comment ≡ None;
  number : awaits_number l.self.found.place l.self.found.parts.kind ≡ true;
  room : l.self.line + line_feeds l.rest < 2 ^ 64;
  within : length l.rest ≤ length l.text;
  same : scan_all take l.fn.self l.text ≡ scan_all take l.self l.rest;
}

abbrev pub decreases-numbers : goal.decreases-numbers
decreases-numbers g l = length l.rest
