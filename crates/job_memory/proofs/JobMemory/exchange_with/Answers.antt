use Rattle.std.proofs.Common.{arith}
use Rattle.job_memory.proofs.Rewritten.{IsHandedOver, IsTurnedOver, handed_over, turned_over}
use Rattle.job_memory.proofs.JobMemory.exchange_with.Given.{Over}
use Rattle.job_memory.proofs.JobMemory.exchange_with.Goals as goal
use Rattle.job_memory.proofs.JobMemory.exchange_with.Goals.{After-rewrite_with, After-releases_keep_blocks}

-- The block is written over first; the references that go then leave it with what was written.
known : (g : Over) (c : After-rewrite_with g) →
    IsHandedOver c.args.job c.args.id c.args.taken.now c.rewrite_with.ensures.words c.args.self.now
    c.rewrite_with.new.self
known g c =
    handed_over c.releases_are_counted.ensures c.releases_keep_blocks.ensures c.args.job c.args.id c.args.taken.now
    c.rewrite_with.ensures.words c.args.self.now c.rewrite_with.new.self c.requires.own c.requires.listed
    c.requires.single c.rewrite_with.ensures.rewritten

before : (g : Over) (c : After-releases_keep_blocks g) →
    IsTurnedOver c.args.job c.args.id c.args.taken.now c.args.self.now
before g c =
    turned_over c.releases_are_counted.ensures c.releases_keep_blocks.ensures c.args.job c.args.id c.args.taken.now
    c.args.self.now c.requires.own c.requires.listed c.requires.single

pub release_all-requires-clause-own : goal.release_all-requires-clause-own
release_all-requires-clause-own g c =
    rw c.share.ensures (known g (goal.at.release_all-requires-clause-own g c).After-rewrite_with).own

pub returns-in-Ok-clause-fresh : goal.returns-in-Ok-clause-fresh
returns-in-Ok-clause-fresh g c =
    let k = before g (goal.at.returns-in-Ok-clause-fresh g c).After-releases_keep_blocks in (k.within, k.fresh)

pub returns-in-Ok-clause-exchanged : goal.returns-in-Ok-clause-exchanged
returns-in-Ok-clause-exchanged g c =
    let e = c.rewrite_with.ensures in
    record {
      words = e.words;
      same_length = e.same_length;
      so = rw c.in-Ok.is at e.so;
      rewritten =
          rw (c.release_all.ensures, c.share.ensures)
          (known g (goal.at.returns-in-Ok-clause-exchanged g c).After-rewrite_with).same;
    }

pub returns-in-Err-clause-fresh : goal.returns-in-Err-clause-fresh
returns-in-Err-clause-fresh g c =
    let k = before g (goal.at.returns-in-Err-clause-fresh g c).After-releases_keep_blocks in (k.within, k.fresh)

pub returns-in-Err-clause-fault : goal.returns-in-Err-clause-fault
returns-in-Err-clause-fault g c =
    let e = c.rewrite_with.ensures in
    let owned = (before g (goal.at.returns-in-Err-clause-fault g c).After-releases_keep_blocks).owned in
    record {
      words = e.words;
      same_length = e.same_length;
      so = rw c.in-Err.is at e.so;
      rewritten = grind (arith, e.rewritten, owned);
    }
