-- The run is of the task that its parts show, so by its rule.
use Rattle.std.proofs.Common.{◌<◌, ◌^◌, ◌∙◌, sym, ap, rules}
use Rattle.job_profile.specs.Walks.{RunState}
use Rattle.job_profile.proofs.Moved.{found_first, found_moved, found_second}
use Rattle.job_profile.proofs.run.Run.counted.Goals as goal

pub returns-then-does_move : goal.returns-then-does_move
returns-then-does_move g c =
    found_moved c.executed_are_counted.ensures.counted c.executed_are_counted.ensures.last _
    (sym c.does_move.ensures ∙ c.if-does_move.true)

pub returns-in-First : goal.returns-in-First
returns-in-First g c =
    let rule = sym (ap (λ (r : RunState). r.task.rule) c.self.view_is) ∙ c.in-First.is in
    let small : c.peak-peak.result < 2 ^ 64 = search rules in
    found_first c.executed_are_counted.ensures.counted c.executed_are_counted.ensures.last _ rule
    (rw c.peak-peak.ensures at small) c.made.ensures c.saturating_add.ensures

pub returns-in-Second : goal.returns-in-Second
returns-in-Second g c =
    let rule = sym (ap (λ (r : RunState). r.task.rule) c.self.view_is) ∙ c.in-Second.is in
    found_second c.executed_are_counted.ensures.counted c.executed_are_counted.ensures.last _ rule
    (sym c.does_move.ensures ∙ c.if-does_move.false) c.held.ensures
