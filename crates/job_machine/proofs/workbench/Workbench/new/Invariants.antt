use Rattle.std.proofs.Common.{◌≡◌, take}
use Rattle.job_machine.proofs.FreshWorkbench.{fresh_jobs}
use Rattle.job_machine.proofs.workbench.Workbench.new.Given as goal

abbrev pub invariant-loop-job : goal.invariant-loop-job
invariant-loop-job g l = l.workplaces.items ≡ fresh_jobs (take l.job-index l.jobs)
