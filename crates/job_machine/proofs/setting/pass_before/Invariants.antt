use Rattle.std.proofs.Common.{◌≡◌}
use Rattle.job_steps.specs.Standings.{passes_before}
use Rattle.job_machine.specs.Sound.{standings_of}
use Rattle.job_machine.proofs.setting.pass_before.Given as goal

abbrev pub invariant-loop-before : goal.invariant-loop-before
invariant-loop-before g l = l.passes ≡ passes_before l.before (standings_of l.slots) l.fn.passes
