use Rattle.kind_list.proofs.InWords.{replaced}
use Rattle.kind_list.proofs.list.KindList.replace_in_word.Goals as goal

pub invariant_of-self : goal.invariant_of-self
invariant_of-self g c =
    (replaced c.self.invariant c.self.view_is c.digits.ensures.chunk.packed c.digits.ensures.is c.len.ensures.is
    c.requires.few c.requires.room c.digits_below.ensures c.low_word-self-inside.ensures).0

pub returns : goal.returns
returns g c =
    (replaced c.self.invariant c.self.view_is c.digits.ensures.chunk.packed c.digits.ensures.is c.len.ensures.is
    c.requires.few c.requires.room c.digits_below.ensures c.low_word-self-inside.ensures).1
