-- The numbers that the program exits with.
use Rattle.std.specs.Prelude.{ℕ, Ok, Err}
use Rattle.std.specs.declared.result.Result.{Result}
use Rattle.step_scheduler.specs.declared.tally.RunFault.{RunFault}
use Rattle.step_scheduler.specs.declared.tally.RunFault.TheVariants as run
use Rattle.batch_front.specs.declared.status.Status.{Status}
use Rattle.batch_front.specs.declared.status.Status.TheVariants.{AllReturned, SomeNot, BatchRefused}
use Rattle.batch_front.specs.declared.fault.FrontFault.{FrontFault}
use Rattle.batch_front.specs.declared.fault.FrontFault.TheVariants as front

-- after a run
abbrev pub exit_of : Result Status FrontFault → ℕ
exit_of (Ok AllReturned) = 0
exit_of (Ok SomeNot) = 1
exit_of (Ok BatchRefused) = 2
exit_of (Err fault) = 3

-- the fault of a run whose workers give up so
abbrev pub front_fault_of : RunFault → FrontFault
front_fault_of run.Memory = front.Memory
front_fault_of run.Mixed = front.Mixed
