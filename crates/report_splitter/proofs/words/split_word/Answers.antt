use Rattle.report_splitter.proofs.SplitLemmas.{split_as}
use Rattle.report_splitter.proofs.words.split_word.Goals as goal

pub returns : goal.returns
returns c word rest = split_as (λ p. p.0.now) (λ p. p.1.now) 32 _ word rest _ c.split_first.ensures
