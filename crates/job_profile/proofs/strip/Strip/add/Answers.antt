use Rattle.std.proofs.Common.{ℕ, ◌-◌, ◌∙◌, ap, length, arith}
use Rattle.std.specs.Prelude.{max}
use Rattle.job_profile.specs.Columns.{highest}
use Rattle.job_profile.proofs.Strips.{begun, highest_push, highest_set, some_columns, widened}
use Rattle.job_profile.proofs.strip.Strip.add.Goals as goal

pub returns-then-self-gt0-clause-strip : goal.returns-then-self-gt0-clause-strip
returns-then-self-gt0-clause-strip g c = λ of n s is.
    let now = c.args.self.now in
    let some = some_columns n (length now.columns.items) now.each now.room s.shape c.if-self-gt0.true in
    rw (c.widen.ensures.columns, c.widen.ensures.each, c.widen.ensures.room, is)
    (widened s (length now.columns.items - 1) (omega (arith, some)) c.if-self-gt0.true)

pub returns-then-self-gt0-clause-fine : goal.returns-then-self-gt0-clause-fine
returns-then-self-gt0-clause-fine g c = λ of n s. rw c.widen.ensures.each s.fine

pub returns-then-self-gt0-clause-highest : goal.returns-then-self-gt0-clause-highest
returns-then-self-gt0-clause-highest g c =
    let now = c.args.self.now in
    let cs = now.columns.items in
    let some = some_columns c.requires.0 (length cs) now.each now.room c.requires.1 c.if-self-gt0.true in
    ap highest c.widen.ensures.columns ∙ highest_set cs (length cs - 1) c.args.next (omega (arith, some))

pub returns-clause-strip : goal.returns-clause-strip
returns-clause-strip g c = λ of n s is.
    rw (c.begin.ensures.columns, c.begin.ensures.each, c.begin.ensures.room, is)
    (begun (c.make_room.ensures.strip of n s) c.make_room.ensures.room c.make_room.ensures.few)

pub returns-clause-fine : goal.returns-clause-fine
returns-clause-fine g c = λ of n s. rw c.begin.ensures.each (c.make_room.ensures.strip of n s).fine

pub returns-clause-highest : goal.returns-clause-highest
returns-clause-highest g c =
    ap highest c.begin.ensures.columns ∙ highest_push c.make_room.new.self.columns.items c.args.next
    ∙ ap (λ (m : ℕ). max m c.args.next.most) c.make_room.ensures.highest
