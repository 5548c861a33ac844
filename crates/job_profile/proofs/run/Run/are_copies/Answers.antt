use Rattle.std.proofs.Common.{sym, ◌∙◌}
use Rattle.job_profile.proofs.Shown.{copies_at}
use Rattle.job_profile.proofs.run.Run.are_copies.Goals as goal

pub returns : goal.returns
returns g c =
    let same =
    copies_at c.self.invariant c.self.view_is c.goes_on.ensures c.if-not-goes_on.false c.args.depth c.args.other
    (sym c.cell.ensures ∙ c.in-Some-Some.is-0) (sym c.cell-2.ensures ∙ c.in-Some-Some.is-1) in
    (λ t. same.0 (c.is_same.ensures.0 t), λ a. c.is_same.ensures.1 (same.1 a))
