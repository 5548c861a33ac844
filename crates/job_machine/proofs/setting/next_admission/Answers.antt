-- What the loop answers at a place is what the definitions answer from that place on.
use Rattle.std.proofs.Common.{◌+◌, Bool, sym, ◌∙◌, ap}
use Rattle.vcode_base.specs.declared.limits.Limits.{Limits}
use Rattle.job_machine.proofs.Admissions.{rest_at, fits_by, past_by, rest_skips, rest_admits, rest_stops, rest_passes}
use Rattle.job_machine.proofs.setting.next_admission.Goals as goal
use Rattle.job_machine.proofs.setting.next_admission.Goals.{then-waits+else-fits+else-passes-place-ge-MOST_PASSES}
use Rattle.job_machine.proofs.setting.next_admission.Goals.{else-waits}

pub returns-then-fits : goal.returns-then-fits
returns-then-fits g c rule =
    let l = c.loop-place in
    let fits = fits_by _ _ _ _ _ c.if-fits.true c.fits.ensures (ap (λ (l : Limits). l.words) c.limits.ensures) in
    sym (l.invariant rule ∙ rest_admits rule c.args.blocks.now _ _ _ l.waiting l.place _ c.loop-place-test.true
    c.requires.slots c.requires.passes c.index-slots-place.is _ c.index-jobs-place.is
    (sym c.waits.ensures ∙ c.if-waits.true) fits)

pub returns-then-passes-place-ge-MOST_PASSES : goal.returns-then-passes-place-ge-MOST_PASSES
returns-then-passes-place-ge-MOST_PASSES g c rule =
    let l = c.loop-place in
    let past = past_by _ _ _ _ _ c.if-fits.false c.fits.ensures (ap (λ (l : Limits). l.words) c.limits.ensures) in
    sym (l.invariant rule ∙ rest_stops rule c.args.blocks.now _ _ _ l.waiting l.place _ c.loop-place-test.true
    c.requires.slots c.requires.passes c.index-slots-place.is _ c.index-jobs-place.is
    (sym c.waits.ensures ∙ c.if-waits.true) past c.if-passes-place-ge-MOST_PASSES.true)

pub loop-place-preserved : goal.loop-place-preserved
loop-place-preserved g c rule =
    let l = c.loop-place in
    let at = λ (b : Bool). rest_at rule c.args.blocks.now c.args.jobs.now c.args.slots.now c.args.passes.now b
    (l.place + 1) in
    elim c.if-waits.branch [
      | then-waits+else-fits+else-passes-place-ge-MOST_PASSES w ↦
          let past =
          past_by _ _ _ _ _ w.if-fits.false w.fits.ensures (ap (λ (l : Limits). l.words) w.limits.ensures) in
          l.invariant rule
          ∙ (rest_passes rule c.args.blocks.now _ _ _ l.waiting l.place _ c.loop-place-test.true c.requires.slots
          c.requires.passes c.index-slots-place.is _ w.index-jobs-place.is (sym c.waits.ensures ∙ w.if-waits.true) past
          w.if-passes-place-ge-MOST_PASSES.false ∙ ap at (sym w.waiting-is))
      | else-waits w ↦
          l.invariant rule
          ∙ (rest_skips rule c.args.blocks.now _ _ _ l.waiting l.place _ c.loop-place-test.true c.requires.slots
          c.requires.passes c.index-slots-place.is (sym c.waits.ensures ∙ w.if-waits.false) ∙ ap at (sym w.waiting-is))
    ]
