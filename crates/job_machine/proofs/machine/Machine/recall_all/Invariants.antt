use Rattle.std.proofs.Common.{◌≡◌}
use Rattle.job_machine.proofs.RunningOut.{recalled_to}
use Rattle.job_machine.proofs.machine.Machine.recall_all.Given as goal

abbrev pub invariant-loop-place : goal.invariant-loop-place
invariant-loop-place g l = l.self ≡ recalled_to l.fn.self l.place
