-- The steps of the slot are those of the run.
use Rattle.job_profile.proofs.Turns.{gone_by_steps, numbers_on, sound_after}
use Rattle.job_profile.proofs.run.Run.go_on.Goals as goal

pub run_for-requires-clause-numbers : goal.run_for-requires-clause-numbers
run_for-requires-clause-numbers g c = numbers_on c.shown_is_alone.ensures c.self.invariant

pub invariant_of-self : goal.invariant_of-self
invariant_of-self g c =
    let shown = c.shown_is_alone.ensures 1 _ _ _ c.used-used.ensures.tidy c.self.invariant.shows in
    sound_after c.reached.ensures c.ended_are_over.ensures c.ends_once.ensures c.self.invariant shown.stands
    c.run_for.ensures.ran c.run_for.ensures.unchanged c.run_for.ensures.shows c.run_for.ensures.others
    c.run_for.ensures.desk

pub returns-clause-gone : goal.returns-clause-gone
returns-clause-gone g c =
    let shown = c.shown_is_alone.ensures 1 _ _ _ c.used-used.ensures.tidy c.self.invariant.shows in
    λ on. gone_by_steps c.reached.ensures c.ended_are_over.ensures c.ends_once.ensures c.self.invariant shown.stands
    c.run_for.new.self c.self.view_is on c.run_for.ensures.ran
