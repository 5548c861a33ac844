use Rattle.std.proofs.Common.{◌∙◌}
use Rattle.kind_list.proofs.InWords.{last_stretch}
use Rattle.kind_list.proofs.list.KindList.last_chunk.Goals as goal

pub from_digits-requires : goal.from_digits-requires
from_digits-requires g c = (last_stretch c.self.invariant c.self.view_is c.if-count-rest.true).0

pub returns-then-count-rest : goal.returns-then-count-rest
returns-then-count-rest g c =
    c.from_digits.ensures ∙ (last_stretch c.self.invariant c.self.view_is c.if-count-rest.true).1
