use Rattle.std.proofs.Common.{◌∙◌}
use Rattle.kind_list.proofs.InWords.{stretch}
use Rattle.kind_list.proofs.list.KindList.chunk.Goals as goal

pub from_digits-requires : goal.from_digits-requires
from_digits-requires g c =
    rw (c.digits_at.ensures, c.deref.ensures.value)
    (stretch c.args.from c.self.invariant c.self.view_is c.requires.within c.requires.few).0

pub returns : goal.returns
returns g c =
    c.from_digits.ensures
    ∙ rw (c.digits_at.ensures, c.deref.ensures.value)
    (stretch c.args.from c.self.invariant c.self.view_is c.requires.within c.requires.few).1
