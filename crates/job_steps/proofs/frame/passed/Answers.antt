use Rattle.job_steps.proofs.Standing.{else_here}
use Rattle.job_steps.proofs.frame.passed.Goals as goal

pub returns-in-Else : goal.returns-in-Else
returns-in-Else g c =
    else_here c.args.function.now c.args.place c.in_ok-item.field-0 c.in_ok-item.ensures c.each_target_is_first.ensures
    c.in-Else.is c.target.result c.target.ensures
