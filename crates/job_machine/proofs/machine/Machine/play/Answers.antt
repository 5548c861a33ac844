use Rattle.job_steps.specs.declared.event.Event.TheVariants.{Admit, Begin, Finish, Recall, Collect}
use Rattle.job_machine.proofs.WorkbenchLemmas.{fit_admitted, fit_collected}
use Rattle.job_machine.proofs.Replaying.{leads_by}
use Rattle.job_machine.proofs.machine.Machine.play.Goals as goal

pub returns-in-Admit-clause-fit : goal.returns-in-Admit-clause-fit
returns-in-Admit-clause-fit g c = fit_admitted _ _ _ c.requires c.admit.ensures.state

pub returns-in-Admit-clause-leads : goal.returns-in-Admit-clause-leads
returns-in-Admit-clause-leads g c = leads_by Admit _ _ c.admit.ensures.state

pub returns-in-Begin-clause-leads : goal.returns-in-Begin-clause-leads
returns-in-Begin-clause-leads g c = leads_by (Begin c.in-Begin.job) _ _ c.play_begin.ensures.state

pub returns-in-Finish-clause-leads : goal.returns-in-Finish-clause-leads
returns-in-Finish-clause-leads g c = leads_by (Finish c.in-Finish.job) _ _ c.play_finish.ensures.state

pub returns-in-Recall-clause-leads : goal.returns-in-Recall-clause-leads
returns-in-Recall-clause-leads g c = leads_by (Recall c.in-Recall.job) _ _ c.play_recall.ensures.state

pub returns-in_ok-collect-in-Collect-clause-fit : goal.returns-in_ok-collect-in-Collect-clause-fit
returns-in_ok-collect-in-Collect-clause-fit g c =
    fit_collected _ _ _ c.in-Collect.job c.requires c.in_ok-collect-in-Collect.ensures.state

pub returns-in_ok-collect-in-Collect-clause-leads : goal.returns-in_ok-collect-in-Collect-clause-leads
returns-in_ok-collect-in-Collect-clause-leads g c =
    leads_by (Collect c.in-Collect.job) _ _ c.in_ok-collect-in-Collect.ensures.state
