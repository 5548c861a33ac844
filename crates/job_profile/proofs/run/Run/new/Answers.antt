use Rattle.std.proofs.Common.{◌+◌, ap, arith}
use Rattle.vcode_base.specs.declared.limits.Limits.{Limits}
use Rattle.job_steps.specs.States.{ruled}
use Rattle.job_profile.proofs.First.{first_shows, first_sound}
use Rattle.job_profile.proofs.run.Run.new.Goals as goal

pub admit-requires-clause-shows : goal.admit-requires-clause-shows
admit-requires-clause-shows g c =
    first_shows c.new_is_shown.ensures c.args.rule c.in_ok-blocks.blocks _ _ c.args.job c.in_ok-slot.slot
    c.in_ok-blocks.ensures.memory c.in_ok-blocks.ensures.grants c.in_ok-slot.ensures

pub invariant_of-result : goal.invariant_of-result
invariant_of-result g c =
    first_sound (ruled c.args.rule c.args.job) c.in_ok-blocks.blocks c.admit.new.blocks c.admit.new.self
    c.in_ok-desk.desk _ _ c.in_ok-blocks.ensures.memory c.admit.ensures.others c.admit.ensures.shows
    c.in-Ok.ensures.admitted (ap (λ (l : Limits). l.cells + 2) c.limits-limits.ensures)
    (omega (arith, c.in_ok-desk.ensures, ap (λ (l : Limits). l.words) c.limits-limits.ensures))
