use Rattle.std.proofs.Common.{None, Some}
use Rattle.report_splitter.proofs.FrontLemmas.{end_in_front, end_in_whole}
use Rattle.report_splitter.proofs.AnswerLemmas.{first_end}
use Rattle.report_splitter.proofs.front.end_of_tail.Goals as goal

pub returns-in-Some-clause-front : goal.returns-in-Some-clause-front
returns-in-Some-clause-front c n tail head more =
    end_in_front _ _ n tail head more (Some c.in-Some.at) c.in-Some.ensures

pub returns-in-Some-clause-whole : goal.returns-in-Some-clause-whole
returns-in-Some-clause-whole c tail head more = end_in_whole _ _ tail head more (Some c.in-Some.at) c.in-Some.ensures

pub returns-in-None-clause-whole : goal.returns-in-None-clause-whole
returns-in-None-clause-whole c tail head more = end_in_whole _ _ tail head more None c.in-None.ensures

pub returns-in-Some-clause-first : goal.returns-in-Some-clause-first
returns-in-Some-clause-first c = first_end _ _ (Some c.in-Some.at) c.in-Some.ensures

pub returns-in-None-clause-first : goal.returns-in-None-clause-first
returns-in-None-clause-first c = first_end _ _ None c.in-None.ensures
