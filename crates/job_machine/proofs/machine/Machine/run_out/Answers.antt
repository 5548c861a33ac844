use Rattle.job_machine.proofs.RunningOut.{leads_on}
use Rattle.job_machine.proofs.machine.Machine.run_out.Goals as goal

pub returns-clause-events : goal.returns-clause-events
returns-clause-events g c = leads_on c.leads_join.ensures _ _ _ c.recall_all.ensures.leads c.run_all-ran.ensures.leads
