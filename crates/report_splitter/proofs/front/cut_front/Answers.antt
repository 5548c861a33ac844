use Rattle.std.proofs.Common.{◌-◌, arith, length}
use Rattle.std.proofs.lemmas.List.{take-append-drop}
use Rattle.report_splitter.proofs.FrontLemmas.{front_of_head, rest_of_front}
use Rattle.report_splitter.proofs.front.cut_front.Goals as goal

pub returns-in-Some-clause-front : goal.returns-in-Some-clause-front
returns-in-Some-clause-front c n tail next_head more t e is =
    grind (
      arith,
      c.cut_tail.ensures.front (n - length c.args.head.now) tail next_head more t e
          (rest_of_front n _ _ _ _ c.in-Some.ensures.front is),
    )

pub returns-in-None-clause-front : goal.returns-in-None-clause-front
returns-in-None-clause-front c n tail next_head more t e is =
    let front = front_of_head n _ _ _ c.in-None.ensures.found is in
    grind (arith, take-append-drop n c.args.head.now)

pub returns-in-Some-clause-answer : goal.returns-in-Some-clause-answer
returns-in-Some-clause-answer c next_head e = grind (arith, c.cut_tail.ensures.line next_head e)
