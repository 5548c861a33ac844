use Rattle.std.proofs.Common.{get_or, sym, ◌∙◌, ap, arith}
use Rattle.std.proofs.lemmas.List.{append-nil}
use Rattle.job_history.proofs.Mirrors.{copied_more}
use Rattle.job_history.proofs.mirror.copy_lower.Goals as goal

pub loop-place-init : goal.loop-place-init
loop-place-init g c = grind (arith, append-nil)

pub loop-place-preserved : goal.loop-place-preserved
loop-place-preserved g c =
    let ys = c.loop-place.entries.items in
    let place = c.loop-place.place in
    c.in_ok-push.ensures.items
    ∙ copied_more c.args.entries.now.items ys c.args.below c.args.lower place c.in_ok-entry.entry c.requires
    c.loop-place.auto.place c.loop-place-test.true c.loop-place.invariant
    (c.in_ok-entry.ensures ∙ (c.index.ensures ∙ ap (λ d. get_or ys place d) (sym c.in_ok-entry.ensures)))
