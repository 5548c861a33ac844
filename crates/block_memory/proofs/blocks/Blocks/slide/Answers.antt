-- A block that slides has its words at its new place, and no other block changes.
use Rattle.std.proofs.Common.{vec_capacity}
use Rattle.block_memory.specs.Layout.{block_at_place}
use Rattle.block_memory.specs.Table.{value_at}
use Rattle.block_memory.proofs.Lists.{items_after_write}
use Rattle.block_memory.proofs.BlocksLemmas.{IsPut, after_move}
use Rattle.block_memory.proofs.blocks.Blocks.slide.Given.{Over}
use Rattle.block_memory.proofs.blocks.Blocks.slide.Goals as goal
use Rattle.block_memory.proofs.blocks.Blocks.slide.Goals.{After-set}

after : (g : Over) (c : After-set g) →
    IsPut c.args.self.now c.move_words-moved.new.region c.mark_start.new.starts.items c.set.new.self
    c.self.inside.size (vec_capacity c.lengthen.new.list) (vec_capacity c.mark_start.new.starts) c.args.number
    (block_at_place c.args.to (value_at c.args.self.now.slots c.args.number))
after g c =
    after_move c.self.invariant c.self.view_is c.len-front.ensures c.deref_mut.ensures.value
    c.lengthen.ensures.capacity c.mark_start.ensures.capacity c.value.ensures c.requires.some
    c.lengthen.ensures.lengthened c.move_words-moved.ensures.written c.mark_start.ensures.marked c.requires.clear
    c.requires.within c.set.ensures

pub invariant_of-self : goal.invariant_of-self
invariant_of-self g c =
    rw (items_after_write c.lengthen.new.list _ _ c.deref_mut.ensures.value
    c.move_words-moved.ensures.written.same_size) (after g (goal.at.invariant_of-self g c).After-set).are_blocks

pub returns-clause-moved : goal.returns-clause-moved
returns-clause-moved g c =
    rw (items_after_write c.lengthen.new.list _ _ c.deref_mut.ensures.value
    c.move_words-moved.ensures.written.same_size) (after g (goal.at.returns-clause-moved g c).After-set).layout
