use Rattle.shown_text.proofs.TextLines.{shown_has_lines}
use Rattle.shown_text.proofs.lines.shown_lines.Goals as goal

pub returns-clause-lines : goal.returns-clause-lines
returns-clause-lines g c = shown_has_lines _ _ c.shown.ensures
