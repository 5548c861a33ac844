-- A block whose words a writer rewrites keeps its place, and no other block changes.
use Rattle.std.proofs.Common.{◌≡◌, length, take, drop, ap, ◌∙◌, sym, vec_capacity, arith}
use Rattle.std.proofs.lemmas.List.{nil_from_length}
use Rattle.std.specs.Prelude.{slice_index_or}
use Rattle.block_memory.specs.Layout.{block_with_words}
use Rattle.block_memory.specs.Table.{value_at}
use Rattle.block_memory.proofs.Lists.{items_after_write}
use Rattle.block_memory.proofs.LayoutLemmas.{length-part}
use Rattle.block_memory.proofs.BlocksLemmas.{IsPut, after_rewrite, lent_by_span, block_by_span, other_apart}
use Rattle.block_memory.proofs.blocks.Blocks.rewrite_with.Given.{Over}
use Rattle.block_memory.proofs.blocks.Blocks.rewrite_with.Goals as goal
use Rattle.block_memory.proofs.blocks.Blocks.rewrite_with.Goals.{After-write_lent}

pub write_lent-requires-clause-apart : goal.write_lent-requires-clause-apart
write_lent-requires-clause-apart g c k d below =
    rw c.deref_mut.ensures.value (other_apart c.self.invariant c.self.view_is c.value-span.ensures c.requires.clear
    (slice_index_or c.args.lent.now k d) (c.requires.others k d below))

pub write_lent-requires-clause-can : goal.write_lent-requires-clause-can
write_lent-requires-clause-can g c =
    let s = c.value-span.result.now in
    let lists = lent_by_span c.self.invariant c.self.view_is c.deref_mut.ensures.value c.args.lent.now in
    let own = block_by_span c.self.invariant c.self.view_is c.args.number c.value-span.ensures
    c.deref_mut.ensures.value in
    rw (lists, own) c.requires.can

-- the words that were written are as many as before
long : (g : Over) (c : After-write_lent g) →
    length (take c.value-span.result.now.len (drop c.value-span.result.now.place c.write_lent.new.words))
    ≡ c.value-span.result.now.len
long g c =
    let s = c.value-span.result.now in
    let inside = c.self.invariant.within c.args.number s c.value-span.ensures in
    let same = ap length c.deref_mut.ensures.value in
    length-part c.write_lent.new.words s.place s.len
    (omega (arith, inside, c.write_lent.ensures.written.same_size, same))

after : (g : Over) (c : After-write_lent g) →
    IsPut c.args.self.now c.write_lent.new.words c.self.inside.starts.items c.self.inside.spans c.self.inside.size
    (vec_capacity c.self.inside.words) (vec_capacity c.self.inside.starts) c.args.number
    (block_with_words (take c.value-span.result.now.len (drop c.value-span.result.now.place c.write_lent.new.words))
    (value_at c.args.self.now.slots c.args.number))
after g c =
    after_rewrite c.self.invariant c.self.view_is c.value-span.ensures c.deref_mut.ensures.value
    c.write_lent.ensures.written (sym (long g c)) c.requires.clear

pub invariant_of-self : goal.invariant_of-self
invariant_of-self g c =
    rw (items_after_write c.self.inside.words _ _ c.deref_mut.ensures.value c.write_lent.ensures.written.same_size)
    (after g (goal.at.invariant_of-self g c).After-write_lent).are_blocks

pub returns : goal.returns
returns g c =
    let s = c.value-span.result.now in
    let at = (goal.at.returns g c).After-write_lent in
    let lists = lent_by_span c.self.invariant c.self.view_is c.deref_mut.ensures.value c.args.lent.now in
    let own = block_by_span c.self.invariant c.self.view_is c.args.number c.value-span.ensures
    c.deref_mut.ensures.value in
    let size = length-part c.deref_mut.result.now s.place s.len
    (rw c.deref_mut.ensures.value (c.self.invariant.within c.args.number s c.value-span.ensures)) in
    let none = nil_from_length c.write_lent.new.beside c.write_lent.auto.beside in
    record {
      words = take s.len (drop s.place c.write_lent.new.words);
      same_length = long g at ∙ (sym size ∙ ap length own);
      rewritten =
          rw (items_after_write c.self.inside.words _ _ c.deref_mut.ensures.value
          c.write_lent.ensures.written.same_size) (after g at).layout;
      so = rw (lists, own, none) at c.write_lent.ensures.by_writer;
    }
