use Rattle.std.proofs.Common.{ap, arith}
use Rattle.job_steps.specs.States.{ruled}
use Rattle.job_history.specs.Places.{Place}
use Rattle.job_history.proofs.Gone.{all_anew}
use Rattle.job_history.proofs.history.History.anew.Goals as goal

pub fill_anew-requires-clause-on : goal.fill_anew-requires-clause-on
fill_anew-requires-clause-on g c =
    let i = c.self.inside in
    all_anew i.walk.run c.in-Ok.walk.run (ruled c.into_parts-rule.result.0 c.into_parts-rule.result.1) c.args.target
    i.walk.at c.self.invariant.run_at
    (omega (arith, c.requires, ap (λ (p : Place). p.at) c.self.view_is, c.self.invariant.has.within))
    c.in-Ok.ensures.run c.into_parts-rule.ensures
