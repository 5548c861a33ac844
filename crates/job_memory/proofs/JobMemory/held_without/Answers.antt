use Rattle.std.proofs.Common.{◌-◌, refl, arith}
use Rattle.job_memory.proofs.Released.{IsReleased, named, released}
use Rattle.refcounts.specs.SharedState.{state_after_releases}
use Rattle.job_memory.proofs.JobMemory.held_without.Given.{Over}
use Rattle.job_memory.proofs.JobMemory.held_without.Goals as goal
use Rattle.job_memory.proofs.JobMemory.held_without.Goals.{After-used_without}

known : (g : Over) (c : After-used_without g) →
    IsReleased c.self.inside.memory (state_after_releases c.self.inside.memory c.args.ids.now) c.self.inside.book
    c.args.job (c.used.result - c.used_without.result)
known g c =
    released c.releasing_changes_only_own.ensures _ _ _ _ c.args.job c.args.ids.now _ c.self.invariant
    c.requires.has_grant.0 c.requires.own c.self.view_is refl (omega arith)

pub used_without-requires : goal.used_without-requires
used_without-requires g c =
    named _ c.self.inside.book c.args.self.now c.args.job c.args.ids.now c.requires.own c.self.view_is

pub overflow_sub-result : goal.overflow_sub-result
overflow_sub-result g c =
    omega (arith, c.held.ensures.value, (known g (goal.at.overflow_sub-result g c).After-used_without).left)

pub returns-clause-value : goal.returns-clause-value
returns-clause-value g c =
    let left = (known g (goal.at.returns-clause-value g c).After-used_without).left in grind (arith, c.held.ensures)
