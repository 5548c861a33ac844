use Rattle.std.proofs.Common.{◌<◌, sym, ◌∙◌, arith}
use Rattle.job_profile.proofs.Stops.{ends, far_is_over, first_seeking, seeking_by, stops}
use Rattle.job_profile.proofs.uses.Uses.run_to.Goals as goal

pub loop-init : goal.loop-init
loop-init g c = first_seeking c.self.invariant.on_run c.self.view_is

pub loop-preserved : goal.loop-preserved
loop-preserved g c =
    seeking_by c.loop.invariant c.holds.ensures c.run-in-loop.ensures _ c.step.ensures.run c.in-Some.ensures

pub returns-in-None : goal.returns-in-None
returns-in-None g c =
    stops c.loop.invariant c.holds.ensures c.run-in-loop.ensures c.in-None.ensures.0 c.in-None.ensures.1

pub returns-then-not-step : goal.returns-then-not-step
returns-then-not-step g c =
    ends (seeking_by c.loop.invariant c.holds.ensures c.run-in-loop.ensures c.in-Some.next c.step.ensures.run
    c.in-Some.ensures) (sym c.step.ensures.goes_on ∙ c.if-not-step.true)

pub returns : goal.returns
returns g c =
    let far : c.args.self.now.task.limits.budget < c.loop.counter = grind arith in
    ends c.loop.invariant (far_is_over c.loop.invariant c.reached.ensures
    (rw (← c.self.view_is) c.self.invariant.on_run.verified) far)
