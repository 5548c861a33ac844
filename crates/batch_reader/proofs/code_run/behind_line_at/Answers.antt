use Rattle.batch_reader.proofs.CodeTexts.{code_before, some_after_lines}
use Rattle.batch_reader.proofs.code_run.behind_line_at.Goals as goal

pub returns-then-may_be_of_end : goal.returns-then-may_be_of_end
returns-then-may_be_of_end c =
    let parts = c.whole_lines_before.ensures in
    some_after_lines _ _ _ c.behind_code_line.result parts.parts
    (code_before _ _ _ c.args.place parts.parts parts.within parts.whole c.requires.first.before)
    c.behind_code_line.ensures
