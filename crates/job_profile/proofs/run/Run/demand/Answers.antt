use Rattle.job_profile.proofs.Shown.{demand_at, told_at}
use Rattle.job_profile.proofs.run.Run.demand.Goals as goal

pub returns-then-goes_on-clause-executed : goal.returns-then-goes_on-clause-executed
returns-then-goes_on-clause-executed g c =
    demand_at c.self.invariant c.self.view_is c.goes_on.ensures c.if-goes_on.true c.early_ends_end.ensures
    c.demand.ensures.executed

pub returns-then-goes_on-clause-told : goal.returns-then-goes_on-clause-told
returns-then-goes_on-clause-told g c =
    told_at c.self.invariant c.self.view_is c.goes_on.ensures c.if-goes_on.true c.demand.ensures.told
