-- The passes before a place are those of the definitions, one place more at each turn of the loop.
use Rattle.std.proofs.Common.{◌+◌, ◌<◌, length, set, get_or, sym, ap, ◌∙◌, add-one, arith}
use Rattle.job_machine.proofs.Admissions.{get_before, more_before, same_before}
use Rattle.job_machine.proofs.setting.pass_before.Goals as goal
use Rattle.job_machine.proofs.setting.pass_before.Goals.{then-waits, else-waits}

pub overflow_add-passes : goal.overflow_add-passes
overflow_add-passes g c = grind (arith, get_before)

pub loop-before-preserved : goal.loop-before-preserved
loop-before-preserved g c =
    let slots = c.args.slots.now in
    let old = c.args.passes.now in
    let place = c.loop-before.before in
    let within : place < length slots = omega (arith, c.loop-before-test.true, c.requires.within) in
    elim c.if-waits.branch [
      | then-waits w ↦
          rw add-one (w.passes-is ∙ (ap (λ ps. set ps place (get_or ps place 0 + 1)) c.loop-before.invariant
          ∙ more_before slots old place _ c.requires.same within c.index-slots-before.is
          (sym c.waits.ensures ∙ w.if-waits.true)))
      | else-waits w ↦
          rw add-one (w.passes-is ∙ (c.loop-before.invariant ∙ same_before slots old place _ c.requires.same within
          c.index-slots-before.is (sym c.waits.ensures ∙ w.if-waits.false)))
    ]
