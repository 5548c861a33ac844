use Rattle.std.proofs.Common.{arith}
use Rattle.std.proofs.lemmas.Grind.{common_steps}
use Rattle.step_scheduler.proofs.CountLemmas.{RaisedBy, raises}
use Rattle.step_scheduler.proofs.guarded.finish_counted.Given.{Over}
use Rattle.step_scheduler.proofs.guarded.finish_counted.Goals as goal
use Rattle.step_scheduler.proofs.guarded.finish_counted.Goals.{After-unwrap_or-after}

raised : (g : Over) (c : After-unwrap_or-after g) →
    RaisedBy c.args.filled.job c.args.machine.now c.finish_own-finished.new.self
raised g c =
    raises c.count_laws.ensures.finishes c.args.filled.job c.args.machine.now c.finish_own-finished.new.self
    (record { verified = c.jobs-jobs.ensures.verified; kept = c.jobs-jobs.ensures.kept }) c.finish_own-finished.result.0
    c.finish_own-finished.ensures.state

pub overflow_sub-result : goal.overflow_sub-result
overflow_sub-result g c = let r = raised g c in grind (arith, common_steps)

pub returns-clause-counted : goal.returns-clause-counted
returns-clause-counted g c = let r = raised g c in grind (arith, common_steps)
