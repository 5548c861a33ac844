use Rattle.block_memory.proofs.TableLemmas.{IsTable-set}
use Rattle.block_memory.proofs.table.Table.set.Goals as goal

pub invariant_of-self : goal.invariant_of-self
invariant_of-self g c =
    IsTable-set c.self.inside.entries c.self.inside.keys.items c.self.inside.vacant.items _ _ _ c.args.number
    c.index.result.now c.args.value c.self.invariant (rw c.self.view_is c.requires) c.index.ensures
