use Rattle.block_memory.proofs.PlainLemmas.{IsPlain-remove}
use Rattle.block_memory.proofs.plain.PlainMemoryVectorMemory.free.Goals as goal

pub invariant_of-self : goal.invariant_of-self
invariant_of-self g c =
    let here = c.self.inside in
    rw (c.remove-block.ensures.removed, c.len.ensures)
    (IsPlain-remove here.size here.used _ c.number.result _ c.remove-block.result c.self.invariant
    c.remove-block.ensures.value c.remove-block.result.words.ok.0)
