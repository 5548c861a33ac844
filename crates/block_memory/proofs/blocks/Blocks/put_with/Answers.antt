-- A block that a writer fills is there with what it wrote, and no other block changes.
use Rattle.std.proofs.Common.{◌≡◌, ◌+◌, vec_capacity, length, take, drop, Some, sym, ap, arith}
use Rattle.block_memory.proofs.Lists.{items_after_write}
use Rattle.block_memory.proofs.LayoutLemmas.{length-part}
use Rattle.block_memory.proofs.BlocksLemmas.{IsPut, IsLonger, longer, after_put, lent_apart, lent_by_span}
use Rattle.block_memory.proofs.blocks.Blocks.put_with.Given.{Over}
use Rattle.block_memory.proofs.blocks.Blocks.put_with.Goals as goal
use Rattle.block_memory.proofs.blocks.Blocks.put_with.Goals.{After-lengthen, After-write_lent-written, After-mark_start}

-- what lies in the words that were made longer
now : (g : Over) (c : After-lengthen g) →
    IsLonger c.args.self.now c.lengthen.new.list.items c.self.inside.starts.items c.self.inside.spans
    c.self.inside.size
    (vec_capacity c.lengthen.new.list) (vec_capacity c.self.inside.starts)
now g c =
    let within = rw (← c.self.view_is) at c.requires.within in
    longer c.self.invariant c.self.view_is c.lengthen.ensures.lengthened (omega (arith, within, c.len-front.ensures))
    c.lengthen.ensures.capacity

pub write_lent-written-requires-clause-apart : goal.write_lent-written-requires-clause-apart
write_lent-written-requires-clause-apart g c =
    let longer = now g (goal.at.write_lent-written-requires-clause-apart g c).After-lengthen in
    lent_apart longer.are_blocks longer.view c.len-front.ensures c.deref_mut.ensures.value c.requires.bare
    c.args.lent.now

pub write_lent-written-requires-clause-can : goal.write_lent-written-requires-clause-can
write_lent-written-requires-clause-can g c =
    let at = (goal.at.write_lent-written-requires-clause-can g c).After-lengthen in
    let lists = lent_by_span (now g at).are_blocks (now g at).view c.deref_mut.ensures.value c.args.lent.now in
    let same = ap length c.deref_mut.ensures.value in
    let size = length-part c.deref_mut.result.now (c.len-front.result + c.args.place) c.args.len
    (omega (arith, same, c.lengthen.ensures.enough)) in
    rw (lists, size) c.requires.can

-- the words that were written are as many as were asked for
long : (g : Over) (c : After-write_lent-written g) →
    length (take c.args.len (drop (c.len-front.result + c.args.place) c.write_lent-written.new.words)) ≡ c.args.len
long g c =
    let same = ap length c.deref_mut.ensures.value in
    length-part c.write_lent-written.new.words (c.len-front.result + c.args.place) c.args.len
    (omega (arith, same, c.lengthen.ensures.enough, c.write_lent-written.ensures.written.same_size))

after : (g : Over) (c : After-mark_start g) →
    length (take c.args.len (drop (c.len-front.result + c.args.place) c.write_lent-written.new.words)) ≡ c.args.len →
    IsPut c.args.self.now c.write_lent-written.new.words c.mark_start.new.starts.items c.insert-number.new.self
    c.self.inside.size (vec_capacity c.lengthen.new.list) (vec_capacity c.mark_start.new.starts)
    c.insert-number.result
    (Some (record {
      owner = c.args.owner;
      place = c.args.place;
      len = c.args.len;
      words = take c.args.len (drop (c.len-front.result + c.args.place) c.write_lent-written.new.words);
    }))
after g c size =
    after_put c.self.invariant c.self.view_is c.len-front.ensures c.deref_mut.ensures.value
    c.lengthen.ensures.capacity
    c.mark_start.ensures.capacity c.insert-number.ensures.in_range c.args.owner c.lengthen.ensures.lengthened
    c.write_lent-written.ensures.written (sym size) c.mark_start.ensures.marked
    (λ other word from below covers. absurd (c.requires.bare other word from below covers)) c.requires.within
    c.insert-number.ensures.inserted

pub invariant_of-self : goal.invariant_of-self
invariant_of-self g c =
    let at = goal.at.invariant_of-self g c in
    rw (items_after_write c.lengthen.new.list _ _ c.deref_mut.ensures.value
    c.write_lent-written.ensures.written.same_size)
    (after g at.After-mark_start (long g at.After-write_lent-written)).are_blocks

pub returns-clause-put : goal.returns-clause-put
returns-clause-put g c =
    let at = goal.at.returns-clause-put g c in
    let size = long g at.After-write_lent-written in
    let longer = now g at.After-lengthen in
    let lists = lent_by_span longer.are_blocks longer.view c.deref_mut.ensures.value c.args.lent.now in (
      _,
      (
        size,
        rw lists at c.write_lent-written.ensures.by_writer,
        rw (items_after_write c.lengthen.new.list _ _ c.deref_mut.ensures.value
            c.write_lent-written.ensures.written.same_size) (after g at.After-mark_start size).layout,
      ),
    )
