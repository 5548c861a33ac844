use Rattle.std.proofs.Common.{◌+◌, ◌≤◌, length, arith}
use Rattle.block_memory.proofs.PlainLemmas.{IsPlain-insert}
use Rattle.block_memory.proofs.plain.PlainMemoryVectorMemory.place.Goals as goal

pub invariant_of-self : goal.invariant_of-self
invariant_of-self g c =
    let here = c.self.inside in
    let within = c.self.invariant.within in
    let fits : here.used + length c.args.words.now ≤ here.size = omega arith in
    rw (c.insert-number.ensures.inserted, ← c.in_ok-copy.ensures.ok)
    (IsPlain-insert here.size here.used here.table c.insert-number.result _ c.self.invariant
    c.insert-number.ensures.in_range c.insert-number.ensures.vacant (rw c.in_ok-copy.ensures.ok fits))
