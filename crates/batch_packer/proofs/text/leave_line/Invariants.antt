use Rattle.std.proofs.Common.{◌≡◌, ◌++◌, drop}
use Rattle.batch_packer.specs.Joins.{blank_to_feed}
use Rattle.batch_packer.proofs.text.leave_line.Given as goal

abbrev pub invariant-loop-i : goal.invariant-loop-i
invariant-loop-i g l = l.text.items ++ blank_to_feed (drop l.i l.bytes) ≡ l.fn.text.items ++ blank_to_feed l.bytes
