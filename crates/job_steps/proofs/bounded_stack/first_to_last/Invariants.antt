use Rattle.std.proofs.Common.{◌≡◌, ◌++◌, take, drop}
use Rattle.job_steps.proofs.bounded_stack.first_to_last.Given as goal

abbrev pub invariant-loop-place : goal.invariant-loop-place
invariant-loop-place g l = l.entries ≡ take l.place (drop 1 l.fn.entries) ++ drop l.place l.fn.entries
