use Rattle.job_profile.proofs.Shown.{there}
use Rattle.job_profile.proofs.run.Run.need.Goals as goal

pub returns-then-goes_on : goal.returns-then-goes_on
returns-then-goes_on g c =
    rw (there c.self.invariant c.self.view_is c.goes_on.ensures c.if-goes_on.true) c.need.ensures
