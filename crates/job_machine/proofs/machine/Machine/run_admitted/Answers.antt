-- Of each job that does not wait, in order: it is done once it has run, and the jobs before it stay done.
use Rattle.std.proofs.Common.{◌∙◌, arith}
use Rattle.job_machine.proofs.RunningOut.{leads_on}
use Rattle.job_machine.proofs.Turns.{runs_on}
use Rattle.job_machine.proofs.machine.Machine.run_admitted.Goals as goal

pub returns-in-Err-clause-leads : goal.returns-in-Err-clause-leads
returns-in-Err-clause-leads g c =
    leads_on c.leads_join.ensures _ _ _ c.loop-place.invariant.0.leads c.run_job-ran.ensures.goes_on.leads

pub loop-place-preserved : goal.loop-place-preserved
loop-place-preserved g c = (
  runs_on c.leads_join.ensures _ _ _ _ _ _ c.loop-place.invariant.0 c.run_job-ran.ensures.goes_on
      (rw c.in_default.is at c.run_job-ran.ensures.ok) (λ k within apart. omega arith),
  c.run_job-ran.ensures.desk ∙ c.loop-place.invariant.1,
)
