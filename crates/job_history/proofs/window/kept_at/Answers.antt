use Rattle.std.proofs.Common.{◌-◌, refl, arith}
use Rattle.std.proofs.lemmas.Option.{slice_get_read}
use Rattle.job_history.proofs.window.kept_at.Goals as goal

pub returns : goal.returns
returns g c = λ task h.
    let states = c.args.window.now.states.items in
    let place = c.args.at - c.args.window.now.first in
    let kept = c.index.result.now in
    let there = slice_get_read states _ place kept refl (omega (arith, c.requires)) c.index.ensures in
    grind (arith, h.each place kept there)
