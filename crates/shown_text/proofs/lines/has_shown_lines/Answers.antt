use Rattle.std.proofs.Common.{arith}
use Rattle.std.proofs.lemmas.Str.{IsUtf8-past_char}
use Rattle.shown_text.proofs.TextLines.{lines_step, no_lines}
use Rattle.shown_text.proofs.lines.has_shown_lines.Goals as goal

pub loop-c-preserved : goal.loop-c-preserved
loop-c-preserved c =
    let held = c.loop-c.invariant in
    let parts = c.in-Some.ensures.steps.0 in
    grind (arith, lines_step _ _ c.in-Some.c held.0 parts, IsUtf8-past_char _ _ c.in-Some.c held.0 parts)

pub returns : goal.returns
returns c = grind (arith, no_lines)
