use Rattle.std.proofs.Common.{◌∙◌, ap, arith}
use Rattle.std.specs.Prelude.{sum}
use Rattle.job_steps.specs.Runs.{executed_count_in}
use Rattle.job_profile.specs.Walks.{RunState, progress_of}
use Rattle.job_profile.specs.Counts.{times_of}
use Rattle.job_profile.proofs.Lists.{part_is, part_sum_le}
use Rattle.job_profile.proofs.profile.Profile.instructions.Goals as goal

pub sum_of-requires : goal.sum_of-requires
sum_of-requires g c =
    let part = rw c.deref.ensures.value at c.part.ensures in
    omega (
      arith,
      ap sum part,
      part_sum_le c.self.inside.times.items c.args.first c.args.count,
      c.self.invariant.counted.total,
      c.executed-executed.ensures,
    )

pub returns : goal.returns
returns g c =
    let part = rw c.deref.ensures.value at c.part.ensures in
    c.sum_of.ensures
    ∙ ap sum part
    ∙ part_is _ _ c.self.inside.times.items c.self.invariant.counted.times_are c.args.first c.args.count
    ∙ ap (λ (r : RunState). times_of r.task c.args.first c.args.count (executed_count_in (progress_of r)))
    c.self.view_is
