use Rattle.std.proofs.Common.{refl, arith}
use Rattle.job_profile.proofs.Turns.{stepped_by}
use Rattle.job_profile.proofs.run.Run.step.Goals as goal

pub step-stepped-requires-clause-numbers : goal.step-stepped-requires-clause-numbers
step-stepped-requires-clause-numbers g c =
    let sound = c.self.invariant in
    let shown = c.shown_is_alone.ensures 1 _ _ _ c.used-used.ensures.tidy sound.shows in
    omega (arith, shown.few, sound.counted, sound.numbers)

pub returns-clause-run : goal.returns-clause-run
returns-clause-run g c =
    let sound = c.self.invariant in
    let shown = c.shown_is_alone.ensures 1 _ _ _ c.used-used.ensures.tidy sound.shows in
    let stepped = c.step-stepped in
    rw (← c.self.view_is) (record {
      task_is = refl;
      progress_is =
          stepped_by c.ended_are_over.ensures _ sound.shows.verified _ sound.enough _ _ sound.admitted shown.stands
          stepped.result stepped.ensures.answer stepped.ensures.standing;
    })
