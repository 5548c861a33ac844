use Rattle.std.proofs.Common.{arith, refl}
use Rattle.report_splitter.proofs.FrontLemmas.{cut_of_front, cut_of_whole}
use Rattle.report_splitter.proofs.AnswerLemmas.{cut_line}
use Rattle.report_splitter.proofs.front.cut_tail.Goals as goal

pub returns-in-Some-clause-front : goal.returns-in-Some-clause-front
returns-in-Some-clause-front c n tail head more t e is =
    cut_of_front _ _ _ _ _ n _ c.cut_at.ensures t is (c.in-Some.ensures.front n tail head more t e is)

pub returns-in-Some-clause-whole : goal.returns-in-Some-clause-whole
returns-in-Some-clause-whole c tail head more t e feed is =
    grind (arith, cut_of_whole c.args.rest.now c.in-Some.at tail head more c.cut_at.result)

pub returns-in-None-clause-whole : goal.returns-in-None-clause-whole
returns-in-None-clause-whole c tail head more t e feed is = grind (arith, c.in-None.ensures.whole tail head more t e is)

pub returns-in-Some-clause-line : goal.returns-in-Some-clause-line
returns-in-Some-clause-line c head e = cut_line _ _ head _ _ e c.in-Some.ensures.first (grind arith)

pub returns-in-None-clause-line : goal.returns-in-None-clause-line
returns-in-None-clause-line c head e = (refl, λ line. c.in-None.ensures.first line.at (rw e line.begins))
