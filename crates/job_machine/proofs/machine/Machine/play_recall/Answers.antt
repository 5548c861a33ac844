use Rattle.job_machine.proofs.WorkbenchLemmas.{plays_recall}
use Rattle.job_machine.proofs.machine.Machine.play_recall.Goals as goal

pub returns-in-Some-clause-fit : goal.returns-in-Some-clause-fit
returns-in-Some-clause-fit g c =
    (plays_recall _ _ _ _ _ c.args.job _ _ c.requires c.in-Some.ensures c.into_desk.ensures
    c.recall.ensures.state c.exchange.ensures.state).fit
