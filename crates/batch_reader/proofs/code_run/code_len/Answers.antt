-- The lines up to the place found are code, whichever way the search for their end comes out.
use Rattle.batch_reader.proofs.CodeTexts.{code_up_to}
use Rattle.batch_reader.proofs.code_run.code_len.Goals as goal

pub returns-in_default-behind_line_at-clause-code : goal.returns-in_default-behind_line_at-clause-code
returns-in_default-behind_line_at-clause-code c =
    let known = c.lines.invariant in
    let parts = c.whole_lines_before.ensures in
    code_up_to _ known.0 _ _ _ c.in-Some.place known.1 known.2 parts.parts parts.whole parts.within
    c.in-Some.ensures.0.before

pub returns-clause-code : goal.returns-clause-code
returns-clause-code c =
    let known = c.lines.invariant in
    let parts = c.whole_lines_before-2.ensures in
    code_up_to _ known.0 _ _ _ _ known.1 known.2 parts.parts parts.whole parts.within c.in_default.ensures
