-- A block that a writer fills lies in words that were free.
use Rattle.std.proofs.Common.{ℤ, List, sym, ap, ◌∙◌, arith, map}
use Rattle.block_memory.specs.Content.{words_at, used_words}
use Rattle.block_memory.specs.Layout.{PlacedBlock, content_of}
use Rattle.block_memory.specs.Region.{RegionState}
use Rattle.block_memory.specs.Placing.{IsPlacedWith}
use Rattle.block_memory.proofs.RegionLemmas.{HasRoom-bare, IsPackedRegion-put, lent_lists, placed_with}
use Rattle.block_memory.proofs.region.PackedRegion.put_with.Given.{Over}
use Rattle.block_memory.proofs.region.PackedRegion.put_with.Goals as goal
use Rattle.block_memory.proofs.region.PackedRegion.put_with.Goals.{After-new-id, in-Ok, in-Err}

pub put_with-number-requires-clause-bare : goal.put_with-number-requires-clause-bare
put_with-number-requires-clause-bare g c = HasRoom-bare c.take_room-place.ensures.room

pub invariant_of-self : goal.invariant_of-self
invariant_of-self g c =
    let room = c.take_room-place.ensures in
    let e = c.put_with-number.ensures in
    let fits = rw (← c.self.view_is) at c.requires.room in
    let block : PlacedBlock =
    record { owner = c.args.owner; place = c.take_room-place.result; len = c.args.len; words = e.put.0 } in
    rw e.put.1.2 (IsPackedRegion-put c.self.inside.used c.put_with-number.result.0 block room.room
    (c.self.invariant.counted ∙ ap used_words (sym room.content)) e.in_range e.vacant e.put.1.0 (omega arith)
    (omega (arith, fits, c.self.invariant.counted, room.size)))

-- the block with its words, of which this is so
with_words : (g : Over) (c : goal.After-new-id g) (is : List ℤ → Type 0) → is c.put_with-number.ensures.put.0 →
    IsPlacedWith c.args.self.now.content (content_of c.put_with-number.new.self.slots) c.new-id.result c.args.owner
    c.args.len is
with_words g c is so =
    let e = c.put_with-number.ensures in
    rw (c.new-id.ensures, e.put.1.2) (placed_with c.take_room-place.new.blocks.slots
    (record { owner = c.args.owner; place = c.take_room-place.result; len = c.args.len; words = e.put.0 })
    (c.take_room-place.ensures.content ∙ ap (λ (m : RegionState). m.content) c.self.view_is) e.in_range e.vacant
    e.put.1.0 so)

pub returns-clause-placed : goal.returns-clause-placed
returns-clause-placed g c =
    let lists = lent_lists c.take_room-place.new.blocks.slots c.args.self.now.content c.args.lent.now
    (c.take_room-place.ensures.content ∙ ap (λ (m : RegionState). m.content) c.self.view_is) in
    elim c.match-written.branch [
      | in-Ok w ↦ rw w.result-is (with_words g (goal.at.returns-clause-placed g c).After-new-id
          (g.W.Writer.writes c.args.writer.now (map (words_at c.args.self.now.content) c.args.lent.now)
          c.put_with-number.new.beside)
          (rw (lists, w.in-Ok.is) at c.put_with-number.ensures.put.1.1))
      | in-Err w ↦ rw w.result-is tt
    ]

pub returns-clause-fault : goal.returns-clause-fault
returns-clause-fault g c =
    let lists = lent_lists c.take_room-place.new.blocks.slots c.args.self.now.content c.args.lent.now
    (c.take_room-place.ensures.content ∙ ap (λ (m : RegionState). m.content) c.self.view_is) in
    elim c.match-written.branch [
      | in-Ok w ↦ rw w.result-is tt
      | in-Err w ↦ rw w.result-is (with_words g (goal.at.returns-clause-fault g c).After-new-id
          (λ words. g.W.Writer.faults c.args.writer.now (map (words_at c.args.self.now.content) c.args.lent.now)
          w.in-Err.fault) (rw (lists, w.in-Err.is) at c.put_with-number.ensures.put.1.1))
    ]
