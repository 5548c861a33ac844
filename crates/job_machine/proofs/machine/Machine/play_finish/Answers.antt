use Rattle.job_machine.proofs.WorkbenchLemmas.{plays_finish}
use Rattle.job_machine.proofs.machine.Machine.play_finish.Goals as goal

pub returns : goal.returns
returns g c =
    let p = plays_finish _ _ _ _ _ c.args.job _ _ _ c.requires c.in-Some.ensures
    c.finish-desk.ensures.answer c.finish-desk.ensures.desk c.finish-desk.ensures.state c.exchange.ensures.state in
    record { state = p.state; fit = p.fit }
