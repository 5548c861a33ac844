use Rattle.std.proofs.Common.{length, arith, ap, Err, refl}
use Rattle.std.proofs.lemmas.Bool.{false≢true}
use Rattle.job_memory.proofs.Grants.{of_grants, no_fault}
use Rattle.job_memory.proofs.Released.{booked_placed}
use Rattle.job_memory.proofs.JobMemory.place.Goals as goal

pub unreachable-requires : goal.unreachable-requires
unreachable-requires g c =
    let room =
    c.granted_words_are_there.ensures c.self.inside.book c.args.job (length c.args.words.now)
    c.granted-reserved.ensures.covered (c.requires.has_grant.0.0, grind (arith, of_grants))
    (grind (arith, c.in_ok-charge.ensures.spent)) in
    no_fault c.in_default.field-0
    (λ e. let past = c.in_default.ensures.full.0 (ap Err e) in omega (
      arith,
      past,
      room,
      c.self.invariant.region,
      c.self.invariant.used,
    ))
    (λ e. false≢true (c.in_default.ensures.memory (ap Err e)).0)

pub invariant_of-self-2 : goal.invariant_of-self-2
invariant_of-self-2 g c =
    let fresh = c.in-Ok.ensures.fresh in
    rw (c.in-Ok.ensures.made, c.in_ok-charge.ensures.charged)
    (booked_placed c.making_changes_only_own.ensures _ _ c.args.job c.in-Ok.id _ c.args.words.now c.self.invariant
    (c.requires.has_grant.0.0, grind (arith, of_grants)) fresh.0 fresh.1 refl)
