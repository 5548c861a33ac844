use Rattle.job_machine.specs.declared.workbench.Workplace.TheVariants as workplace
use Rattle.job_machine.proofs.WorkbenchLemmas.{takes_other}
use Rattle.job_machine.proofs.workbench.Workbench.take_filled.Goals as goal

pub returns-in_default : goal.returns-in_default
returns-in_default g c =
    takes_other (λ taken. workplace.Holds taken) c.args.job _ _ _ _ c.in_ok-other.ensures.own
    c.in_ok-other.ensures.state c.exchange-in_default.ensures.state c.in_default.not-Holds
