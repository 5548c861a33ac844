use Rattle.std.proofs.Common.{◌≡◌, ◌-◌, ◌++◌, drop, take}
use Rattle.job_history.proofs.mirror.copy_lower.Given as goal

abbrev pub invariant-loop-place : goal.invariant-loop-place
invariant-loop-place g l =
    l.entries.items ≡ l.fn.entries.items ++ take (l.place - l.below) (drop l.below l.fn.entries.items)
