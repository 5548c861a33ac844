-- A block that is rewritten has the new words, and no other block changes.
use Rattle.std.proofs.Common.{arith}
use Rattle.block_memory.proofs.Lists.{items_after_write}
use Rattle.block_memory.proofs.BlocksLemmas.{after_rewrite, length-words_of-span}
use Rattle.block_memory.proofs.blocks.Blocks.rewrite.Goals as goal

pub returns : goal.returns
returns g c =
    let same = rw (← c.self.view_is) at c.requires.same_length in
    let long = length-words_of-span c.args.number c.value-span.result.now c.self.invariant c.value-span.ensures in
    rw (items_after_write c.self.inside.words _ _ c.deref_mut.ensures.value c.write_words.ensures.same_size)
    (after_rewrite c.self.invariant c.self.view_is c.value-span.ensures c.deref_mut.ensures.value c.write_words.ensures
    (omega (arith, same, long)) c.requires.clear).layout
