-- A block that is put is there, and no other block changes.
use Rattle.std.proofs.Common.{vec_capacity, length, Some, refl}
use Rattle.block_memory.proofs.Lists.{items_after_write}
use Rattle.block_memory.proofs.BlocksLemmas.{IsPut, after_put}
use Rattle.block_memory.proofs.blocks.Blocks.put.Given.{Over}
use Rattle.block_memory.proofs.blocks.Blocks.put.Goals as goal
use Rattle.block_memory.proofs.blocks.Blocks.put.Goals.{After-mark_start}

after : (g : Over) (c : After-mark_start g) →
    IsPut c.args.self.now c.write_words.new.region c.mark_start.new.starts.items c.insert-number.new.self
    c.self.inside.size (vec_capacity c.lengthen.new.list) (vec_capacity c.mark_start.new.starts) c.insert-number.result
    (Some (record {
      owner = c.args.owner;
      place = c.args.place;
      len = length c.args.words.now;
      words = c.args.words.now;
    }))
after g c =
    after_put c.self.invariant c.self.view_is c.len-front.ensures c.deref_mut.ensures.value c.lengthen.ensures.capacity
    c.mark_start.ensures.capacity c.insert-number.ensures.in_range c.args.owner c.lengthen.ensures.lengthened
    c.write_words.ensures refl c.mark_start.ensures.marked
    (λ other word from below covers. absurd (c.requires.bare other word from below covers)) c.requires.within
    c.insert-number.ensures.inserted

pub invariant_of-self : goal.invariant_of-self
invariant_of-self g c =
    rw (items_after_write c.lengthen.new.list _ _ c.deref_mut.ensures.value c.write_words.ensures.same_size)
    (after g (goal.at.invariant_of-self g c).After-mark_start).are_blocks

pub returns-clause-put : goal.returns-clause-put
returns-clause-put g c =
    rw (items_after_write c.lengthen.new.list _ _ c.deref_mut.ensures.value c.write_words.ensures.same_size)
    (after g (goal.at.returns-clause-put g c).After-mark_start).layout
