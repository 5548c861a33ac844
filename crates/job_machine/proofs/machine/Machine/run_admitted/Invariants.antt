use Rattle.std.proofs.Common.{◌≡◌}
use Rattle.job_machine.proofs.Turns.{RunsTo}
use Rattle.job_machine.proofs.machine.Machine.run_admitted.Given as goal

abbrev pub invariant-loop-place : goal.invariant-loop-place
invariant-loop-place g l = RunsTo l.place l.fn.self l.self × (l.desk ≡ l.fn.desk)
