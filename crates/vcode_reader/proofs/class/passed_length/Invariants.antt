use Rattle.std.proofs.Common.{◌≡◌, ◌+◌, drop}
use Rattle.vcode_reader.specs.Classes.{passed_length}
use Rattle.vcode_reader.proofs.class.passed_length.Given as goal

abbrev pub invariant-loop-place : goal.invariant-loop-place
invariant-loop-place l = passed_length l.text ≡ l.place + passed_length (drop l.place l.text)
