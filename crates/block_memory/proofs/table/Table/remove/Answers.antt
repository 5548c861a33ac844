use Rattle.block_memory.proofs.TableLemmas.{IsTable-remove}
use Rattle.block_memory.proofs.table.Table.remove.Goals as goal

pub invariant_of-self : goal.invariant_of-self
invariant_of-self g c =
    rw (c.push_reserved.ensures.capacity, c.push_reserved.ensures.items, c.replace.ensures.after)
    (IsTable-remove c.self.inside.entries c.self.inside.keys.items c.self.inside.vacant.items _ _ _ c.args.number
    c.index.result.now c.self.invariant (rw c.self.view_is c.requires) c.index.ensures)
