-- An instruction that is executed is counted at its line and goes into a column. One that isn't leaves both.
use Rattle.std.proofs.Common.{◌<◌, ◌^◌, cond, sym, ◌∙◌, ap, arith, rules}
use Rattle.std.specs.Prelude.{nat_lt}
use Rattle.job_profile.specs.declared.coming.Coming.{Coming}
use Rattle.job_profile.specs.Walks.{progress_of}
use Rattle.job_profile.proofs.Counted.{counts, executes, fits, found_by, line_coming, of_new, stays}
use Rattle.job_profile.proofs.profile.Profile.step.Goals as goal

pub invariant_of-self-then-now-executed : goal.invariant_of-self-then-now-executed
invariant_of-self-then-now-executed g c =
    let come = c.step-goes_on.ensures.run in
    let before = rw c.run-run.ensures at c.executed-executed.ensures in
    let after = rw c.run-run-2.ensures at c.executed-now.ensures in
    of_new come
    (stays c.self.invariant (c.steps_move.ensures _ _ _ c.self.invariant.on_run come.progress_is) c.grow.ensures.same
    (sym after ∙ c.if-now-executed.true ∙ before) (rw c.run-run-2.ensures at c.coming-self-inside.ensures))

pub count-requires-clause-fits : goal.count-requires-clause-fits
count-requires-clause-fits g c =
    let before = rw c.run-run.ensures at c.executed-executed.ensures in
    let after = rw c.run-run-2.ensures at c.executed-now.ensures in
    let le =
    fits c.self.invariant
    (c.steps_move.ensures _ _ _ c.self.invariant.on_run c.step-goes_on.ensures.run.progress_is) c.grow.ensures.same
    (λ e. c.if-now-executed.false (after ∙ e ∙ sym before)) c.in_ok-grow.ensures.long in
    let bound : c.executed-now.result < 2 ^ 64 = search rules in
    omega (arith, bound, after, le)

pub invariant_of-self-2 : goal.invariant_of-self-2
invariant_of-self-2 g c =
    let come = c.step-goes_on.ensures.run in
    let seen = c.run-run.ensures in
    let shown = c.run-run-2.ensures in
    let before = rw seen at c.executed-executed.ensures in
    let after = rw shown at c.executed-now.ensures in
    let peak = rw seen at c.peak-peak.ensures in
    let next = rw shown at c.peak.ensures in
    let found =
    found_by come (rw shown at c.counted-most.ensures)
    (ap (λ (m : Coming). m.effect) c.self.invariant.coming_is) (rw seen at c.held-held.ensures) in
    of_new come
    (counts c.self.invariant (c.steps_move.ensures _ _ _ c.self.invariant.on_run come.progress_is) c.grow.ensures.same
    (λ e. c.if-now-executed.false (after ∙ e ∙ sym before)) c.add.ensures.strip c.add.ensures.fine
    c.add.ensures.highest c.in_ok-grow.ensures.long
    (ap (λ (m : Coming). m.line) c.self.invariant.coming_is ∙ line_coming (progress_of c.self.inside.uses))
    c.count.ensures (c.note_peak.ensures ∙ (λ i. cond (nat_lt (peak i) (next i)) (after i) c.self.inside.peak_after))
    found (rw shown at c.held-least.ensures)
    (rw shown at c.coming-self-inside.ensures))

pub returns-clause-words : goal.returns-clause-words
returns-clause-words g c =
    let come = c.step-goes_on.ensures.run in
    let seen = c.run-run.ensures in
    let before = rw seen at c.executed-executed.ensures in
    let after = rw c.run-run-2.ensures at c.executed-now.ensures in
    let found =
    found_by come (rw c.run-run-2.ensures at c.counted-most.ensures)
    (ap (λ (m : Coming). m.effect) c.self.invariant.coming_is) (rw seen at c.held-held.ensures) in
    let x =
    (executes c.self.invariant (c.steps_move.ensures _ _ _ c.self.invariant.on_run come.progress_is) c.grow.ensures.same
    (λ e. c.if-now-executed.false (after ∙ e ∙ sym before))) in
    (rw c.self.view_is at x.executed, rw c.self.view_is at (found x))
