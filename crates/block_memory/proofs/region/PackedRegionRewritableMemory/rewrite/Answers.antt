use Rattle.std.proofs.Common.{sym, ◌∙◌}
use Rattle.block_memory.proofs.RegionLemmas.{CanRewrite, can_rewrite}
use Rattle.block_memory.proofs.region.PackedRegionRewritableMemory.rewrite.Given.{Over}
use Rattle.block_memory.proofs.region.PackedRegionRewritableMemory.rewrite.Goals as goal
use Rattle.block_memory.proofs.region.PackedRegionRewritableMemory.rewrite.Goals.{After-number}

can : (g : Over) (c : After-number g) →
    CanRewrite c.self.inside.blocks c.self.inside.places c.self.inside.covered c.number.result c.args.words.now
can g c =
    can_rewrite
    c.self.invariant.region (rw c.number.ensures (rw (← c.self.view_is) at c.requires.live))
    (rw c.number.ensures (rw (← c.self.view_is) at c.requires.same_length))

pub rewrite-requires-clause-clear : goal.rewrite-requires-clause-clear
rewrite-requires-clause-clear g c = (can g (goal.at.rewrite-requires-clause-clear g c).After-number).clear

pub invariant_of-self : goal.invariant_of-self
invariant_of-self g c =
    let rewritten = can g (goal.at.invariant_of-self g c).After-number in
    rw c.rewrite.ensures (record {
      region = rewritten.region;
      counted = c.self.invariant.counted ∙ sym rewritten.same_used;
      fits = c.self.invariant.fits;
    })

pub returns-clause-rewritten : goal.returns-clause-rewritten
returns-clause-rewritten g c =
    rw (c.rewrite.ensures, c.number.ensures, ← c.self.view_is)
    (rw c.number.ensures at (can g (goal.at.returns-clause-rewritten g c).After-number).content)
