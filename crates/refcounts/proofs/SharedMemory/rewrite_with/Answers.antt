use Rattle.std.proofs.Common.{◌≡◌, arith}
use Rattle.block_memory.specs.Content.{words_at as words_in_block}
use Rattle.refcounts.specs.Making.{words_at}
use Rattle.refcounts.proofs.Slots.{of_rewrite, slot_is, words_listed}
use Rattle.refcounts.proofs.SharedMemory.rewrite_with.Goals as goal

pub rewrite_with-requires-clause-can : goal.rewrite_with-requires-clause-can
rewrite_with-requires-clause-can g c =
    let content = g.M.VectorMemory.content c.self.inside.memory in
    let words : words_in_block content c.args.id ≡ words_at c.args.self.now c.args.id = grind (arith, slot_is) in
    rw (words_listed _ _ _ _ c.args.lent.now c.self.view_is, words) c.requires.can

pub returns : goal.returns
returns g c =
    let content = g.M.VectorMemory.content c.self.inside.memory in
    let words : words_in_block content c.args.id ≡ words_at c.args.self.now c.args.id = grind (arith, slot_is) in
    let e = c.rewrite_with.ensures.rewritten in
    record {
      words = e.words;
      same_length = grind (arith, e.same_length, words);
      so = rw (words_listed _ _ _ _ c.args.lent.now c.self.view_is, words) at e.so;
      rewritten = grind (arith, of_rewrite, e.rewritten);
    }
