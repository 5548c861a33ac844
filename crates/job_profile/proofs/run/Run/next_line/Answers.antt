use Rattle.std.proofs.Common.{Some, sym, ◌∙◌, ap}
use Rattle.vcode_reader.specs.Trees.{CodeLine}
use Rattle.job_profile.proofs.Shown.{begins_at, line_at, run}
use Rattle.job_profile.proofs.run.Run.next_line.Goals as goal

pub function-requires : goal.function-requires
function-requires g c =
    let can =
    begins_at c.self.invariant c.self.view_is c.goes_on.ensures c.if-not-goes_on.false c.steps_can_begin.ensures in
    rw (c.program.ensures.same, c.verified.ensures.same, c.track-track.ensures) can.active

pub line-requires : goal.line-requires
line-requires g c =
    let can =
    begins_at c.self.invariant c.self.view_is c.goes_on.ensures c.if-not-goes_on.false c.steps_can_begin.ensures in (
      c.program.result.now.functions,
      record {
        active = rw (c.program.ensures.same, c.verified.ensures.same, c.track-track.ensures) can.active;
        innermost = c.function.ensures;
      },
    )

pub returns : goal.returns
returns g c =
    let can =
    begins_at c.self.invariant c.self.view_is c.goes_on.ensures c.if-not-goes_on.false c.steps_can_begin.ensures in
    let run = run c.self.invariant c.self.view_is c.goes_on.ensures c.if-not-goes_on.false in
    ap (λ (l : CodeLine). Some l) (c.line.ensures.line c.program.result.now.functions can.call can.outer
    c.function.ensures (rw (c.program.ensures.same, c.verified.ensures.same, c.track-track.ensures) run.settled)
    (rw (c.program.ensures.same, c.verified.ensures.same, c.track-track.ensures) can.stands))
    ∙ sym (line_at c.self.invariant c.self.view_is c.goes_on.ensures c.if-not-goes_on.false can.calls)
