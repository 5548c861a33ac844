use Rattle.std.proofs.Common.{arith}
use Rattle.kind_list.proofs.InWords.{below}
use Rattle.kind_list.proofs.list.KindList.truncate.Goals as goal

pub invariant_of-self : goal.invariant_of-self
invariant_of-self g c =
    let kept = below c.self.invariant c.self.view_is (omega arith) c.truncate.ensures.items in
    rw (c.digits_below-self-inside.ensures, c.word_at.ensures, c.deref.ensures.value) kept.0

pub returns : goal.returns
returns g c =
    let kept = below c.self.invariant c.self.view_is (omega arith) c.truncate.ensures.items in
    rw (c.digits_below-self-inside.ensures, c.word_at.ensures, c.deref.ensures.value) kept.1
