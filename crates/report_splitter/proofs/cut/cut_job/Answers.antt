use Rattle.std.proofs.Common.{◌∙◌, ap, inr, rules, arith, sym, take}
use Rattle.report_splitter.specs.ReportTexts.{head_text, next_head}
use Rattle.report_splitter.proofs.AnswerLemmas.{entry_answer}
use Rattle.report_splitter.proofs.CutLemmas.{entry_parts}
use Rattle.report_splitter.proofs.cut.cut_job.Goals as goal

pub returns-in-Ok-clause-whole : goal.returns-in-Ok-clause-whole
returns-in-Ok-clause-whole g c refused entry entries all sum end is =
    let p = entry_parts _ _ refused entry entries c.deref.result.now all sum (search rules) (search rules) in
    let cut = c.in-Ok.ensures.whole _ _ p.more p.tail (search rules) p.feed (is ∙ p.parts) in
    c.cut_of.ensures.whole entry _ p.is_text end cut.0 (cut.1 ∙ sym p.after)

pub returns-clause-whole : goal.returns-clause-whole
returns-clause-whole g c refused entry entries all sum end is =
    let p = entry_parts _ _ refused entry entries c.deref.result.now all sum (search rules) (search rules) in
    absurd (c.in-Err.ensures.whole _ _ p.more p.tail (search rules) p.feed (is ∙ p.parts))

pub returns-in-Ok-clause-front : goal.returns-in-Ok-clause-front
returns-in-Ok-clause-front g c n refused entry entries all sum end is =
    let p = entry_parts _ _ refused entry entries c.deref.result.now all sum (search rules) (search rules) in
    let cut = c.in-Ok.ensures.front n _ _ p.more p.tail (search rules) (is ∙ ap (take n) p.parts) in
    c.cut_of.ensures.front entry cut.1.0 _ p.is_text end cut.0 (cut.1.1 ∙ ap (take cut.1.0) (sym p.after))

pub returns-clause-front : goal.returns-clause-front
returns-clause-front g c n refused entry entries all sum end is =
    let p = entry_parts _ _ refused entry entries c.deref.result.now all sum (search rules) (search rules) in
    inr (c.in-Err.ensures.front n _ _ p.more p.tail (search rules) (is ∙ ap (take n) p.parts))

pub returns-in-Ok-clause-early : goal.returns-in-Ok-clause-early
returns-in-Ok-clause-early g c n refused entry entries all sum early is =
    let p = entry_parts _ _ refused entry entries c.deref.result.now all sum (search rules) (search rules) in
    let cut = c.in-Ok.ensures.front n _ _ p.more p.tail (search rules) (is ∙ ap (take n) p.parts) in
    c.cut_of.ensures.early entry p.is_text early cut.0

pub returns-in-Ok-clause-answer : goal.returns-in-Ok-clause-answer
returns-in-Ok-clause-answer g c = grind (arith, entry_answer, head_text, next_head)
