use Rattle.std.proofs.Common.{sym, ◌∙◌}
use Rattle.job_profile.proofs.Shown.{cell_there}
use Rattle.job_profile.proofs.run.Run.block.Goals as goal

pub returns : goal.returns
returns g c =
    cell_there c.self.invariant c.self.view_is c.goes_on.ensures c.if-not-goes_on.false
    (sym c.cell.ensures ∙ c.in_ok-block.was)
