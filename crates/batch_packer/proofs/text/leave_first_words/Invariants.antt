use Rattle.std.proofs.Common.{◌≡◌, ◌++◌, drop}
use Rattle.batch_packer.specs.Joins.{without_first_words}
use Rattle.batch_packer.proofs.text.leave_first_words.Given as goal

abbrev pub invariant-loop-i : goal.invariant-loop-i
invariant-loop-i g l = l.text.items ++ without_first_words (drop l.i l.bytes) ≡ l.fn.text.items
    ++ without_first_words l.bytes
