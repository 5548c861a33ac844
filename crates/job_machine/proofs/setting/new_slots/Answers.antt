use Rattle.std.proofs.Common.{◌∷◌, [], refl, arith, length-append}
use Rattle.std.proofs.lemmas.Option.{slice_get_read}
use Rattle.job_machine.proofs.FirstSlots.{new_more}
use Rattle.job_machine.proofs.setting.new_slots.Goals as goal

pub loop-job-preserved : goal.loop-job-preserved
loop-job-preserved g c =
    let kept = c.loop-job.invariant in
    let at = slice_get_read c.args.jobs.now _ c.loop-job.job-index _ refl c.loop-job-test.true c.job-item.is in
    rw c.in_ok-push.ensures.items (record {
      count = omega (arith, length-append c.loop-job.slots.items (c.in_ok-new.field-0 ∷ []), kept.count);
      new = new_more _ _ _ _ (rw (← kept.count) at at) c.in_ok-new.ensures kept.new;
    })
