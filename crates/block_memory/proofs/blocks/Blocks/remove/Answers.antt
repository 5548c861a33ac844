use Rattle.std.proofs.Common.{ap, is_some}
use Rattle.block_memory.proofs.Lists.{IsSome-in_range}
use Rattle.block_memory.proofs.BlocksLemmas.{after_remove}
use Rattle.block_memory.proofs.blocks.Blocks.remove.Goals as goal

pub returns-clause-removed : goal.returns-clause-removed
returns-clause-removed g c =
    let e = c.remove-span.ensures in
    (after_remove c.self.invariant c.self.view_is c.args.number
    (IsSome-in_range c.self.inside.spans c.args.number (ap is_some e.value)) e.removed).layout

pub invariant_of-self : goal.invariant_of-self
invariant_of-self g c =
    let e = c.remove-span.ensures in
    (after_remove c.self.invariant c.self.view_is c.args.number
    (IsSome-in_range c.self.inside.spans c.args.number (ap is_some e.value)) e.removed).are_blocks
