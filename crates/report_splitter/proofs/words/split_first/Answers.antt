use Rattle.report_splitter.proofs.SplitLemmas.{none_found, split_found}
use Rattle.report_splitter.proofs.words.split_first.Goals as goal

pub returns-in-Some : goal.returns-in-Some
returns-in-Some c = split_found c.args.byte c.args.text.now c.in-Some.at c.in-Some.ensures

pub returns-in-None : goal.returns-in-None
returns-in-None c = none_found c.args.byte c.args.text.now c.in-None.ensures
