use Rattle.std.proofs.Common.{◌≡◌, length}
use Rattle.job_machine.proofs.Turns.{RunsTo, left_in}
use Rattle.job_machine.proofs.machine.Machine.run_all.Given as goal

abbrev pub invariant-loop-job : goal.invariant-loop-job
invariant-loop-job g l = RunsTo (length l.fn.self.tasks) l.fn.self l.self × (l.desk ≡ l.fn.desk)

abbrev pub decreases-loop-job : goal.decreases-loop-job
decreases-loop-job g l = left_in l.self
