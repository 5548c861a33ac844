use Rattle.block_memory.proofs.PlainLemmas.{IsPlain-empty}
use Rattle.block_memory.proofs.plain.PlainMemory.new.Goals as goal

pub invariant_of-result : goal.invariant_of-result
invariant_of-result g c = rw c.in_ok-table.ensures (IsPlain-empty _ c.args.size c.args.most_blocks)
