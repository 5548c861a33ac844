use Rattle.std.proofs.Common.{◌≡◌, drop}
use Rattle.vcode_reader.specs.Parsing.{has_name}
use Rattle.vcode_reader.proofs.parser.has_name.Given as goal

abbrev pub invariant-loop-f : goal.invariant-loop-f
invariant-loop-f g l = has_name l.word l.functions ≡ has_name l.word (drop l.f-index l.functions)
