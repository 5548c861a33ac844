use Rattle.std.proofs.Common.{◌-◌, refl, subst}
use Rattle.job_history.specs.Places.{IsLater, Place}
use Rattle.job_history.specs.Sound.{place_by}
use Rattle.job_history.proofs.Gone.{later_gone, later_within}
use Rattle.job_history.proofs.history.History.forward.Goals as goal

pub returns-then-count-left : goal.returns-then-count-left
returns-then-count-left g c =
    let i = c.self.inside in
    let to = i.walk.at - (i.walk.at - i.at - c.args.count) in
    subst (λ (p : Place). IsLater c.args.count p (place_by i.walk.run to)) c.self.view_is
    (later_within i.walk.run i.at i.walk.at c.args.count to c.self.invariant.run_at c.self.invariant.has.within
    c.if-count-left.true refl)

pub returns : goal.returns
returns g c =
    let i = c.self.inside in
    subst (λ (p : Place). IsLater c.args.count p c.in_ok-history.history) c.self.view_is
    (later_gone i.walk.run i.at i.walk.at c.args.count c.in_ok-history.history c.self.invariant.has.within
    c.if-count-left.false c.in_ok-history.ensures)
