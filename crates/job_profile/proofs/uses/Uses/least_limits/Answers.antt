use Rattle.std.proofs.Common.{refl, sym, ◌∙◌, ap, arith}
use Rattle.std.specs.Prelude.{option_copied}
use Rattle.job_profile.proofs.Used.{are_least, returned_by}
use Rattle.job_profile.proofs.uses.Uses.least_limits.Goals as goal

pub invariant_of-result : goal.invariant_of-result
invariant_of-result g c =
    let r = c.self.inside.run in
    let limits = r.task.limits in
    let found = c.in-Some-Returned in
    let back =
    returned_by c.used_are_least.ensures c.reached.ensures r c.self.invariant
    (sym c.ending.ensures ∙ ap option_copied found.is) (found.field-0-0, found.field-0-is) in
    grind (arith, c.peak.ensures, c.max.ensures, c.executed.ensures)

pub returns-in-Some-Returned : goal.returns-in-Some-Returned
returns-in-Some-Returned g c =
    let r = c.self.inside.run in
    let found = c.in-Some-Returned in
    let back =
    returned_by c.used_are_least.ensures c.reached.ensures r c.self.invariant
    (sym c.ending.ensures ∙ ap option_copied found.is) (found.field-0-0, found.field-0-is) in
    are_least c.used_are_least.ensures r c.self.view_is c.self.invariant.on_run.verified back c.peak.ensures
    c.max.ensures refl c.executed.ensures
