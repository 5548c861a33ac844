use Rattle.std.proofs.Common.{sym}
use Rattle.block_memory.proofs.BlocksLemmas.{in_region}
use Rattle.block_memory.proofs.blocks.Blocks.range.Goals as goal

pub returns-clause-len : goal.returns-clause-len
returns-clause-len g c =
    rw (← c.self.view_is) (sym (in_region c.args.number c.value-span.result.now c.self.invariant c.value-span.ensures
    (rw (← c.self.view_is) at c.requires.some)).1)
