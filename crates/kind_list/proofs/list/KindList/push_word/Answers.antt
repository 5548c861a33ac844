use Rattle.kind_list.proofs.InWords.{last_lt, filled}
use Rattle.kind_list.proofs.list.KindList.push_word.Goals as goal

pub low_word-requires-clause-fits : goal.low_word-requires-clause-fits
low_word-requires-clause-fits g c = last_lt c.self.invariant

pub invariant_of-self-2 : goal.invariant_of-self-2
invariant_of-self-2 g c =
    (filled c.self.invariant c.self.view_is c.digits-digits.ensures.chunk c.digits-digits.ensures.is c.len.ensures.is
    c.requires c.in-Some.ensures.1 c.low_word.ensures c.high_word-self-inside.ensures c.in_ok-push.ensures.items).0

pub returns-clause-pushed : goal.returns-clause-pushed
returns-clause-pushed g c =
    (filled c.self.invariant c.self.view_is c.digits-digits.ensures.chunk c.digits-digits.ensures.is c.len.ensures.is
    c.requires c.in-Some.ensures.1 c.low_word.ensures c.high_word-self-inside.ensures c.in_ok-push.ensures.items).1
