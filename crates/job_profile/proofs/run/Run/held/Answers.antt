use Rattle.std.proofs.Common.{◌∙◌}
use Rattle.job_profile.proofs.Shown.{held_at}
use Rattle.job_profile.proofs.run.Run.held.Goals as goal

pub returns-then-goes_on : goal.returns-then-goes_on
returns-then-goes_on g c =
    let shown = c.shown_is_alone.ensures 1 _ _ _ c.used-used.ensures.tidy c.self.invariant.shows in
    c.held.ensures.value ∙ shown.held
    ∙ held_at c.self.invariant c.self.view_is c.goes_on.ensures c.if-goes_on.true
