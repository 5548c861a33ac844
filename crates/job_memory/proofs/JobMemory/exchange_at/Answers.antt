use Rattle.std.proofs.Common.{arith}
use Rattle.refcounts.specs.SharedState.{new_slot}
use Rattle.job_memory.proofs.Rewritten.{IsTurnedOver, turned_over, releases_shared}
use Rattle.job_memory.proofs.JobMemory.exchange_at.Given.{Over}
use Rattle.job_memory.proofs.JobMemory.exchange_at.Goals as goal
use Rattle.job_memory.proofs.JobMemory.exchange_at.Goals.{After-releases_keep_blocks}

known : (g : Over) (c : After-releases_keep_blocks g) →
    IsTurnedOver c.args.job c.args.id c.args.taken.now c.args.self.now
known g c =
    turned_over c.releases_are_counted.ensures c.releases_keep_blocks.ensures c.args.job c.args.id c.args.taken.now
    c.args.self.now c.requires.own c.requires.listed c.requires.single

pub release_all-requires-clause-own : goal.release_all-requires-clause-own
release_all-requires-clause-own g c =
    rw c.share.ensures (known g (goal.at.release_all-requires-clause-own g c).After-releases_keep_blocks).own

pub rewrite-requires-clause-single : goal.rewrite-requires-clause-single
rewrite-requires-clause-single g c =
    let left = (known g (goal.at.rewrite-requires-clause-single g c).After-releases_keep_blocks).left in grind arith

pub rewrite-requires-clause-same_length : goal.rewrite-requires-clause-same_length
rewrite-requires-clause-same_length g c =
    let left = (known g (goal.at.rewrite-requires-clause-same_length g c).After-releases_keep_blocks).left in
    grind arith

pub returns-clause-fresh : goal.returns-clause-fresh
returns-clause-fresh g c =
    let k = known g (goal.at.returns-clause-fresh g c).After-releases_keep_blocks in
    (k.within, k.fresh)

pub returns-clause-exchanged : goal.returns-clause-exchanged
returns-clause-exchanged g c =
    let left = (known g (goal.at.returns-clause-exchanged g c).After-releases_keep_blocks).left in
    let slot = new_slot c.args.job c.args.words.now in
    let same = releases_shared c.args.self.now.memory c.args.id slot c.args.taken.now in grind arith
