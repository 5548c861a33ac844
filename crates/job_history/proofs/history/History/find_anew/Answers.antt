use Rattle.std.proofs.Common.{refl, arith}
use Rattle.job_history.proofs.Searches.{found_anew, none_anew, none_before}
use Rattle.job_history.proofs.history.History.find_anew.Goals as goal

pub returns-then-end-eq0 : goal.returns-then-end-eq0
returns-then-end-eq0 g c =
    none_before c.args.goal.now.stops.now c.args.goal.now.calls c.args.self
    (omega (arith, c.at-end.ensures.at, c.if-end-eq0.true))

pub returns-in_ok-anew-in-Some : goal.returns-in_ok-anew-in-Some
returns-in_ok-anew-in-Some g c =
    found_anew c.args.goal.now.stops.now c.args.goal.now.calls c.args.self c.in_ok-anew.field-0 c.in_ok-history.history
    c.in_ok-anew-in-Some.field-0 c.at-end.result c.in-Some.number c.in_ok-history.last c.in_ok-anew.ensures
    c.in_ok-history.ensures.to c.in_ok-anew-in-Some.ensures c.at-end.ensures.at c.in_ok-history.ensures.last
    c.in-Some.is

pub returns-in_ok-anew-in-None : goal.returns-in_ok-anew-in-None
returns-in_ok-anew-in-None g c =
    none_anew c.args.goal.now.stops.now c.args.goal.now.calls c.args.self c.in_ok-anew.field-0 c.in_ok-history.history
    c.in_ok-anew-in-None.field-0 c.at-end.result 0 c.in_ok-history.last c.in_ok-anew.ensures
    c.in_ok-history.ensures.to c.in_ok-anew-in-None.ensures c.at-end.ensures.at c.in_ok-history.ensures.last
    c.in-None.is
    refl
