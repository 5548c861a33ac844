use Rattle.std.proofs.Common.{sym, ◌∙◌, arith}
use Rattle.job_history.proofs.Searches.{found_here, found_nowhere, more_searched, not_found}
use Rattle.job_history.proofs.history.History.find_next.Goals as goal

pub loop-preserved : goal.loop-preserved
loop-preserved g c =
    more_searched c.args.goal.now.stops.now c.args.goal.now.calls c.args.self c.loop.counter c.loop.history
    c.in_ok-history.history c.loop.invariant (sym c.goes_on.ensures ∙ c.if-not-goes_on.false) c.in_ok-history.ensures
    (sym c.meets.ensures ∙ c.if-meets.false)

pub returns-then-not-goes_on : goal.returns-then-not-goes_on
returns-then-not-goes_on g c =
    found_nowhere c.args.goal.now.stops.now c.args.goal.now.calls c.args.self c.loop.counter c.args.most c.loop.history
    c.loop.invariant (omega (arith, c.loop-test.true)) (sym c.goes_on.ensures ∙ c.if-not-goes_on.true)

pub returns-then-meets : goal.returns-then-meets
returns-then-meets g c =
    found_here c.args.goal.now.stops.now c.args.goal.now.calls c.args.self c.loop.counter c.loop.history
    c.in_ok-history.history c.loop.invariant (sym c.goes_on.ensures ∙ c.if-not-goes_on.false) c.in_ok-history.ensures
    c.args.most c.loop-test.true (sym c.meets.ensures ∙ c.if-meets.true)

pub returns-then-goes_on : goal.returns-then-goes_on
returns-then-goes_on g c =
    not_found c.args.goal.now.stops.now c.args.goal.now.calls c.args.self c.loop.counter c.args.most c.loop.history
    c.loop.invariant (omega (arith, c.loop-test.false, c.loop.auto.counter-end))
    (sym c.goes_on-2.ensures ∙ c.if-goes_on.true)

pub returns-else-goes_on : goal.returns-else-goes_on
returns-else-goes_on g c =
    found_nowhere c.args.goal.now.stops.now c.args.goal.now.calls c.args.self c.loop.counter c.args.most c.loop.history
    c.loop.invariant (omega (arith, c.loop.auto.counter-end)) (sym c.goes_on-2.ensures ∙ c.if-goes_on.false)
