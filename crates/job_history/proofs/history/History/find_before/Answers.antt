use Rattle.std.proofs.Common.{Bool, false, subst}
use Rattle.job_history.specs.Goals.{EndsKept}
use Rattle.job_history.proofs.Searches.{ends_back}
use Rattle.job_history.proofs.history.History.find_before.Goals as goal

pub returns : goal.returns
returns g c =
    let stops = c.args.goal.now.stops.now in
    let calls = c.args.goal.now.calls in
    let mid = c.find_kept-history.result.0 in
    let kept : EndsKept false stops calls c.args.self mid =
    subst (λ (b : Bool). EndsKept b stops calls c.args.self mid) c.if-found.false c.find_kept-history.ensures in
    ends_back stops calls c.args.self c.in_ok-history.found mid c.in_ok-history.history c.in_ok-history.ensures kept.0
    kept.1 kept.2
