use Rattle.std.proofs.Common.{arith}
use Rattle.kind_list.proofs.InWords.{last_lt, pushed}
use Rattle.kind_list.proofs.list.KindList.push_chunk.Goals as goal

pub low_word-self-inside-requires-clause-fits : goal.low_word-self-inside-requires-clause-fits
low_word-self-inside-requires-clause-fits g c = last_lt c.self.invariant

pub invariant_of-self : goal.invariant_of-self
invariant_of-self g c =
    (pushed c.self.invariant c.self.view_is c.digits.ensures.chunk.packed c.digits.ensures.is c.len-count.ensures.is
    (omega arith) c.low_word-self-inside.ensures).0

pub returns-then-rest-count-lt-WORD_DIGITS-clause-pushed : goal.returns-then-rest-count-lt-WORD_DIGITS-clause-pushed
returns-then-rest-count-lt-WORD_DIGITS-clause-pushed g c =
    (pushed c.self.invariant c.self.view_is c.digits.ensures.chunk.packed c.digits.ensures.is c.len-count.ensures.is
    (omega arith) c.low_word-self-inside.ensures).1
