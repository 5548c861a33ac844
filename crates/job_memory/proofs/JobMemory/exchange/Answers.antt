use Rattle.std.proofs.Common.{length, ap, refl, arith, Err}
use Rattle.std.proofs.lemmas.Bool.{false≢true}
use Rattle.job_memory.proofs.Grants.{no_fault}
use Rattle.job_memory.proofs.Released.{IsExchange, named, exchange, booked_exchanged}
use Rattle.job_memory.proofs.JobMemory.exchange.Given.{Over}
use Rattle.job_memory.proofs.JobMemory.exchange.Goals as goal
use Rattle.job_memory.proofs.JobMemory.exchange.Goals.{After-release_all-freed}

-- The job has room for the new block once the others are released, and so has the memory.
known : (g : Over) (c : After-release_all-freed g) →
    IsExchange c.self.inside.memory c.release_all-freed.new.self c.self.inside.book c.args.job
    c.release_all-freed.result (length c.args.words.now)
known g c =
    exchange c.releasing_changes_only_own.ensures c.granted_words_are_there.ensures c.releases_only_free.ensures
    c.self.inside.memory c.release_all-freed.new.self c.self.inside.book c.args.self.now c.args.job c.args.taken.now
    c.release_all-freed.result (length c.args.words.now) c.self.invariant c.granted-covered.ensures.covered
    c.requires.has_grant.0 c.requires.own c.requires.numbers c.requires.room c.self.view_is
    c.release_all-freed.ensures.released c.release_all-freed.ensures.freed

pub release_all-freed-requires : goal.release_all-freed-requires
release_all-freed-requires g c =
    named _ c.self.inside.book c.args.self.now c.args.job c.args.taken.now c.requires.own c.self.view_is

pub exchange-requires-clause-holds : goal.exchange-requires-clause-holds
exchange-requires-clause-holds g c =
    omega (arith, (known g (goal.at.exchange-requires-clause-holds g c).After-release_all-freed).released.left)

pub unreachable-requires : goal.unreachable-requires
unreachable-requires g c =
    let x = known g (goal.at.unreachable-requires g c).After-release_all-freed in
    omega (arith, x.granted, c.in_default.ensures.spent.0 refl)

pub make-requires : goal.make-requires
make-requires g c = (known g (goal.at.make-requires g c).After-release_all-freed).numbers

pub unreachable-requires-in_default-make : goal.unreachable-requires-in_default-make
unreachable-requires-in_default-make g c =
    let x = known g (goal.at.unreachable-requires-in_default-make g c).After-release_all-freed in
    no_fault c.in_default-make.field-0
    (λ e. let past = c.in_default-make.ensures.full.0 (ap Err e) in omega (arith, past, x.room))
    (λ e. false≢true (c.in_default-make.ensures.memory (ap Err e)).0)

pub invariant_of-self : goal.invariant_of-self
invariant_of-self g c =
    let fresh = c.in-Ok-make.ensures.fresh in
    rw (c.in-Ok-make.ensures.made, c.in-Ok.ensures.exchanged)
    (booked_exchanged c.making_changes_only_own.ensures _ _ _ c.args.job _ c.in-Ok-make.placed c.args.words.now
    c.self.invariant (known g (goal.at.invariant_of-self g c).After-release_all-freed).released fresh.0 fresh.1)

pub returns-clause-fresh : goal.returns-clause-fresh
returns-clause-fresh g c =
    let fresh = c.in-Ok-make.ensures.fresh in
    let ids = (known g (goal.at.returns-clause-fresh g c).After-release_all-freed).released.changes.ids in
    grind (arith, fresh, ids)
