use Rattle.std.proofs.Common.{arith}
use Rattle.job_memory.proofs.Released.{named, released, booked_released}
use Rattle.job_memory.proofs.JobMemory.release_all.Goals as goal

pub release_all-freed-requires : goal.release_all-freed-requires
release_all-freed-requires g c =
    named _ c.self.inside.book c.args.self.now c.args.job c.args.ids.now c.requires.own c.self.view_is

pub refund-requires-clause-holds : goal.refund-requires-clause-holds
refund-requires-clause-holds g c =
    let freed = c.release_all-freed.ensures in
    let r = released c.releasing_changes_only_own.ensures _ _ c.self.inside.book _ c.args.job c.args.ids.now _
    c.self.invariant c.requires.has_grant.0 c.requires.own c.self.view_is freed.released freed.freed in
    omega (arith, r.left)

pub invariant_of-self : goal.invariant_of-self
invariant_of-self g c =
    let freed = c.release_all-freed.ensures in
    rw c.refund.ensures
    (booked_released _ _ c.self.inside.book c.args.job _ c.self.invariant
    (released c.releasing_changes_only_own.ensures _ _ _ _ c.args.job c.args.ids.now _ c.self.invariant
    c.requires.has_grant.0 c.requires.own c.self.view_is freed.released freed.freed))
