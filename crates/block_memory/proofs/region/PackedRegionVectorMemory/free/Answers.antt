-- After a block was freed, its words are free, and all others are as they were.
use Rattle.block_memory.proofs.RegionLemmas.{IsFreed, is_freed}
use Rattle.block_memory.proofs.region.PackedRegionVectorMemory.free.Given.{Over}
use Rattle.block_memory.proofs.region.PackedRegionVectorMemory.free.Goals as goal
use Rattle.block_memory.proofs.region.PackedRegionVectorMemory.free.Goals.{After-remove-freed}

freed : (g : Over) (c : After-remove-freed g) →
    IsFreed c.self.inside.blocks c.self.inside.places c.self.inside.covered c.self.inside.used c.number.result
    c.remove-freed.result.place c.remove-freed.result.covered c.remove-freed.result.words
freed g c =
    let here = c.self.inside in
    let gone = c.remove-freed.ensures in
    is_freed here.blocks here.places here.covered here.used c.number.result _ _ _
    c.self.invariant (rw c.number.ensures (rw (← c.self.view_is) at c.requires)) gone.place gone.covered gone.words

pub give-requires-clause-none_free : goal.give-requires-clause-none_free
give-requires-clause-none_free g c =
    (freed g (goal.at.give-requires-clause-none_free g c).After-remove-freed).leaving.none_free

pub invariant_of-self : goal.invariant_of-self
invariant_of-self g c =
    rw c.remove-freed.ensures.removed ((freed g (goal.at.invariant_of-self g c).After-remove-freed).without_room
    c.if-freed-eq0.true)

pub invariant_of-self-2 : goal.invariant_of-self-2
invariant_of-self-2 g c =
    rw (c.remove-freed.ensures.removed, c.give.ensures)
    (freed g (goal.at.invariant_of-self-2 g c).After-remove-freed).memory
