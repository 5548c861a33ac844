use Rattle.std.proofs.Common.{arith}
use Rattle.kind_list.proofs.Numbers.{word_made}
use Rattle.kind_list.proofs.bits.low_word.Goals as goal

pub returns : goal.returns
returns c = word_made _ _ _ _ (omega arith) c.requires.fits
