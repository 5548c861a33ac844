use Rattle.std.proofs.Common.{◌≤◌, ◌+◌, refl, ap, arith}
use Rattle.reservations.specs.BookState as book
use Rattle.job_memory.specs.JobBlocks.{JobBlocks}
use Rattle.job_memory.proofs.Grants.{of_grants}
use Rattle.job_memory.proofs.Released.{booked_placed}
use Rattle.job_memory.proofs.JobMemory.place_with.Given.{Over}
use Rattle.job_memory.proofs.JobMemory.place_with.Goals as goal
use Rattle.job_memory.proofs.JobMemory.place_with.Goals.{After-granted-reserved}

-- The job's grant has room for the block, and so has the memory.
granted : (g : Over) (c : After-granted-reserved g) →
    book.words_held_by c.self.inside.book c.args.job + c.args.len ≤ book.words_granted_to c.self.inside.book c.args.job
granted g c =
    let held = c.self.invariant.held c.args.job (c.requires.has_grant.0.0, grind (arith, of_grants)) in
    grind (arith, of_grants)

pub make_with-requires-clause-room : goal.make_with-requires-clause-room
make_with-requires-clause-room g c =
    let room =
    c.granted_words_are_there.ensures c.self.inside.book c.args.job c.args.len c.granted-reserved.ensures.covered
    (c.requires.has_grant.0.0, grind (arith, of_grants))
    (granted g (goal.at.make_with-requires-clause-room g c).After-granted-reserved) in
    omega (arith, room, c.self.invariant.region, c.self.invariant.used)

pub make_with-requires-clause-can : goal.make_with-requires-clause-can
make_with-requires-clause-can g c = rw (ap (λ (bs : JobBlocks). bs.memory) c.self.view_is) c.requires.can

pub unreachable-requires : goal.unreachable-requires
unreachable-requires g c =
    let fits = granted g (goal.at.unreachable-requires g c).After-granted-reserved in
    omega (arith, fits, c.in_default.ensures.spent.0 refl)

pub invariant_of-self : goal.invariant_of-self
invariant_of-self g c =
    let made = c.in-Ok.ensures.made in
    rw (made.made, c.in-Ok-charge.ensures.charged)
    (booked_placed c.making_changes_only_own.ensures _ _ c.args.job c.in-Ok.id _ made.words c.self.invariant
    (c.requires.has_grant.0.0, grind (arith, of_grants)) made.in_range made.empty made.long)

pub returns-in-Ok-charge-clause-placed : goal.returns-in-Ok-charge-clause-placed
returns-in-Ok-charge-clause-placed g c =
    let made = c.in-Ok.ensures.made in
    record {
      words = made.words;
      in_range = grind (arith, made.in_range);
      empty = grind (arith, made.empty);
      long = made.long;
      so = rw (ap (λ (bs : JobBlocks). bs.memory) c.self.view_is) at made.so;
      placed = grind (arith, of_grants, made.made);
    }

pub returns-in-Err-clause-fault : goal.returns-in-Err-clause-fault
returns-in-Err-clause-fault g c = rw (ap (λ (bs : JobBlocks). bs.memory) c.self.view_is) at c.in-Err.ensures.fault
