-- A block of one word that is put lies in a word that was free.
use Rattle.std.proofs.Common.{ℤ, List, map, ap, arith}
use Rattle.block_memory.specs.Content.{words_at}
use Rattle.block_memory.specs.Layout.{content_of}
use Rattle.block_memory.specs.Region.{RegionState}
use Rattle.block_memory.specs.Placing.{IsPlacedWith}
use Rattle.block_memory.proofs.RegionLemmas.{IsPackedRegion-word, lent_lists, placed_with}
use Rattle.block_memory.proofs.region.PackedRegion.put_word_with.Given.{Over}
use Rattle.block_memory.proofs.region.PackedRegion.put_word_with.Goals as goal
use Rattle.block_memory.proofs.region.PackedRegion.put_word_with.Goals.{After-new-id, in-Ok, in-Err}

pub invariant_of-self : goal.invariant_of-self
invariant_of-self g c =
    let e = c.put_word_with-number.ensures in
    let room = rw (← c.self.view_is) at c.requires.room in
    rw e.put.1.2 (IsPackedRegion-word c.put_word_with-number.result.0 c.args.owner e.put.0 c.self.invariant e.put.1.0
    e.in_range e.vacant (omega (arith, room, c.self.invariant.counted)))

-- the block with its words, of which this is so
with_words : (g : Over) (c : goal.After-new-id g) (is : List ℤ → Type 0) → is c.put_word_with-number.ensures.put.0 →
    IsPlacedWith c.args.self.now.content (content_of c.put_word_with-number.new.self.slots) c.new-id.result c.args.owner
    1 is
with_words g c is so =
    let e = c.put_word_with-number.ensures in
    rw (c.new-id.ensures, e.put.1.2) (placed_with c.self.inside.blocks.slots
    (record { owner = c.args.owner; place = 0; len = 0; words = e.put.0 })
    (ap (λ (m : RegionState). m.content) c.self.view_is) e.in_range e.vacant e.put.1.0 so)

pub returns-clause-placed : goal.returns-clause-placed
returns-clause-placed g c =
    let lists = lent_lists c.self.inside.blocks.slots c.args.self.now.content c.args.lent.now
    (ap (λ (m : RegionState). m.content) c.self.view_is) in
    elim c.match-written.branch [
      | in-Ok w ↦ rw w.result-is (with_words g (goal.at.returns-clause-placed g c).After-new-id
          (g.W.Writer.writes c.args.writer.now (map (words_at c.args.self.now.content) c.args.lent.now)
          c.put_word_with-number.new.beside)
          (rw (lists, w.in-Ok.is) at c.put_word_with-number.ensures.put.1.1))
      | in-Err w ↦ rw w.result-is tt
    ]

pub returns-clause-fault : goal.returns-clause-fault
returns-clause-fault g c =
    let lists = lent_lists c.self.inside.blocks.slots c.args.self.now.content c.args.lent.now
    (ap (λ (m : RegionState). m.content) c.self.view_is) in
    elim c.match-written.branch [
      | in-Ok w ↦ rw w.result-is tt
      | in-Err w ↦ rw w.result-is (with_words g (goal.at.returns-clause-fault g c).After-new-id
          (λ words. g.W.Writer.faults c.args.writer.now (map (words_at c.args.self.now.content) c.args.lent.now)
          w.in-Err.fault) (rw (lists, w.in-Err.is) at c.put_word_with-number.ensures.put.1.1))
    ]
