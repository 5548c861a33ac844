use Rattle.std.proofs.Common.{◌∙◌, sym, ap}
use Rattle.block_memory.specs.Content.{block_count}
use Rattle.block_memory.proofs.PlainLemmas.{block_count-plain}
use Rattle.block_memory.proofs.plain.PlainMemoryVectorMemory.blocks.Goals as goal

pub returns : goal.returns
returns g c =
    c.values.ensures ∙ (sym (block_count-plain c.self.inside.table) ∙ ap (λ m. block_count m.content) c.self.view_is)
