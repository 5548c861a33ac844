use Rattle.std.proofs.Common.{◌≡◌, take}
use Rattle.job_machine.specs.Machines.{after_all}
use Rattle.job_machine.specs.Workbench.{WorkbenchFits}
use Rattle.job_machine.proofs.machine.Machine.play_all.Given as goal

abbrev pub invariant-loop-place : goal.invariant-loop-place
invariant-loop-place g l = (l.self ≡ after_all (take l.place l.events) l.fn.self) × WorkbenchFits l.self l.workbench
