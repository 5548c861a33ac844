use Rattle.std.proofs.Common.{sym, ◌∙◌, arith}
use Rattle.job_history.proofs.Searches.{found_kept, missed_kept}
use Rattle.job_history.proofs.history.History.find_kept.Goals as goal

pub returns-then-meets : goal.returns-then-meets
returns-then-meets g c =
    found_kept c.args.goal.now.stops.now c.args.goal.now.calls c.args.self c.loop.history c.to_kept-next.result.0
    c.at-number.result c.to_kept-next.result.1 c.to_kept-next.ensures c.if-not-is_there.false c.at-number.ensures.at
    (omega (arith, c.if-number-eq0.false)) c.loop.invariant (sym c.meets.ensures ∙ c.if-meets.true)

pub loop-preserved : goal.loop-preserved
loop-preserved g c =
    missed_kept c.args.goal.now.stops.now c.args.goal.now.calls c.args.self c.loop.history c.to_kept-next.result.0
    c.at-number.result c.to_kept-next.result.1 c.to_kept-next.ensures c.if-not-is_there.false c.at-number.ensures.at
    (omega (arith, c.if-number-eq0.false)) c.loop.invariant (sym c.meets.ensures ∙ c.if-meets.false)
