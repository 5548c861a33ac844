use Rattle.block_memory.proofs.Lists.{value_at-none}
use Rattle.block_memory.proofs.places.nothing_kept.Goals as goal

pub returns : goal.returns
returns c = value_at-none 64
