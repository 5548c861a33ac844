use Rattle.report_splitter.proofs.HeadLemmas.{line_answer}
use Rattle.report_splitter.proofs.heads.first_line.Goals as goal

pub returns : goal.returns
returns c = line_answer _ _ _ _ c.split_first.ensures
