use Rattle.std.proofs.Common.{◌≡◌, ◌+◌, drop}
use Rattle.vcode_reader.specs.Classes.{plain_length}
use Rattle.vcode_reader.proofs.class.plain_length.Given as goal

abbrev pub invariant-loop-place : goal.invariant-loop-place
invariant-loop-place l = plain_length l.text ≡ l.place + plain_length (drop l.place l.text)
