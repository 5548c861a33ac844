-- A block that a writer rewrites keeps its place among the others.
use Rattle.std.proofs.Common.{◌≡◌, ℕ, ℤ, List, length, map, sym, ◌∙◌, ap, refl}
use Rattle.block_memory.specs.Content.{words_at}
use Rattle.block_memory.specs.Layout.{words_at as slot_words_at}
use Rattle.block_memory.specs.Region.{RegionState}
use Rattle.block_memory.proofs.RegionLemmas.{CanRewrite, can_rewrite, lent_lists, lent_words}
use Rattle.block_memory.proofs.region.PackedRegionLendingMemory.rewrite_with.Given.{Over}
use Rattle.block_memory.proofs.region.PackedRegionLendingMemory.rewrite_with.Goals as goal
use Rattle.block_memory.proofs.region.PackedRegionLendingMemory.rewrite_with.Goals.{After-number}

-- words can be written over those of the block, if they are as many
can : (g : Over) (c : After-number g) (words : List ℤ) →
    length words ≡ length (slot_words_at c.self.inside.blocks.slots c.number.result) →
    CanRewrite c.self.inside.blocks c.self.inside.places c.self.inside.covered c.number.result words
can g c words same =
    can_rewrite
    c.self.invariant.region (rw c.number.ensures (rw (← c.self.view_is) at c.requires.live))
    (same ∙ ap length (lent_words c.self.inside.blocks.slots c.number.result))

lists : (g : Over) (c : After-number g) →
    map (slot_words_at c.self.inside.blocks.slots) c.args.lent.now
    ≡ map (words_at c.args.self.now.content) c.args.lent.now
lists g c =
    lent_lists c.self.inside.blocks.slots c.args.self.now.content c.args.lent.now
    (ap (λ (m : RegionState). m.content) c.self.view_is)

own : (g : Over) (c : After-number g) →
    slot_words_at c.self.inside.blocks.slots c.number.result ≡ words_at c.args.self.now.content c.args.id
own g c =
    lent_words c.self.inside.blocks.slots c.number.result
    ∙ (ap (λ (m : RegionState). words_at m.content c.number.result) c.self.view_is
    ∙ ap (λ (n : ℕ). words_at c.args.self.now.content n) c.number.ensures)

pub rewrite_with-requires-clause-clear : goal.rewrite_with-requires-clause-clear
rewrite_with-requires-clause-clear g c =
    (can g (goal.at.rewrite_with-requires-clause-clear g c).After-number _ refl).clear

pub invariant_of-self : goal.invariant_of-self
invariant_of-self g c =
    let e = c.rewrite_with.ensures in
    let rewritten = can g (goal.at.invariant_of-self g c).After-number e.words e.same_length in
    rw e.rewritten (record {
      region = rewritten.region;
      counted = c.self.invariant.counted ∙ sym rewritten.same_used;
      fits = c.self.invariant.fits;
    })

pub returns-clause-rewritten : goal.returns-clause-rewritten
returns-clause-rewritten g c =
    let at = (goal.at.returns-clause-rewritten g c).After-number in
    let e = c.rewrite_with.ensures in
    let rewritten = can g at e.words e.same_length in
    record {
      words = e.words;
      same_length = e.same_length ∙ ap length (own g at);
      so = rw (lists g at, own g at) at e.so;
      rewritten = rw (e.rewritten, c.number.ensures, ← c.self.view_is) (rw c.number.ensures at rewritten.content);
    }
