use Rattle.std.proofs.Common.{◌∙◌, ap}
use Rattle.job_machine.specs.Workbench.{with_workplace}
use Rattle.job_machine.proofs.WorkbenchLemmas.{plays_begin}
use Rattle.job_machine.proofs.machine.Machine.play_begin.Goals as goal

pub returns : goal.returns
returns g c =
    let p = plays_begin _ _ _ _ _ c.args.job _ _ c.requires c.in-Some.ensures
    c.begin-begun.ensures.answer c.begin-begun.ensures.state
    (c.exchange.ensures.state ∙ ap (λ h. with_workplace c.args.job h c.take_desk.new.self) c.after.ensures) in
    record { state = p.state; fit = p.fit }
