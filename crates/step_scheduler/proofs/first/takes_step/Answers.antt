use Rattle.std.proofs.Common.{refl}
use Rattle.job_steps.specs.declared.event.Event.TheVariants.{Begin}
use Rattle.step_scheduler.proofs.CountLemmas.{continues_after, continues_finished, continues_on}
use Rattle.step_scheduler.proofs.first.takes_step.Goals as goal

pub returns-in-Began-clause-continues : goal.returns-in-Began-clause-continues
returns-in-Began-clause-continues g c =
    let jobs = c.jobs-jobs.ensures in
    let then = c.jobs-jobs-in-Began.ensures in
    continues_on _ _ _
    (continues_after c.count_laws.ensures.others (Begin c.args.job) refl c.args.machine.now c.begin.new.self
    (record { verified = jobs.verified; kept = jobs.kept }) c.in-Began.ensures.state)
    (continues_finished c.count_laws.ensures.finishes c.compute.result.job c.begin.new.self
    c.finish_own-finished.new.self (record { verified = then.verified; kept = then.kept })
    c.finish_own-finished.result.0 c.finish_own-finished.ensures.state)
