use Rattle.std.proofs.Common.{sym, ◌∙◌, ap, arith}
use Rattle.std.proofs.lemmas.Bool.{false≢true, ltb-false}
use Rattle.std.proofs.lemmas.Option.{none-some, same_Some, slice_get_past}
use Rattle.job_steps.specs.Standings.{Waiting, is_waiting}
use Rattle.job_machine.proofs.TurnLemmas.{parts, some_turn}
use Rattle.job_machine.proofs.machine.Machine.place_for.Goals as goal

pub returns-in_default-clause-none : goal.returns-in_default-clause-none
returns-in_default-clause-none g c can = grind (arith, ltb-false, none-some, slice_get_past)

pub returns-then-not-waits-clause-none : goal.returns-then-not-waits-clause-none
returns-then-not-waits-clause-none g c can =
    let turn = some_turn (parts c.self.inside) c.number.result c.self.invariant c.self.view_is c.place.ensures _ _
    c.in-Some.is c.index.ensures in
    let waits = same_Some _ Waiting (sym (rw c.number.ensures at turn.1.shown_standing) ∙ can.waits) in
    false≢true (sym (sym c.waits.ensures ∙ c.if-not-waits.true) ∙ ap is_waiting waits)
