use Rattle.std.proofs.Common.{append_assoc, append-nil, arith}
use Rattle.std.proofs.lemmas.Str.{IsUtf8-past_char}
use Rattle.shown_text.proofs.Pieces.{shown_chars_step, shown_chars_empty}
use Rattle.shown_text.proofs.push_text.Goals as goal

pub loop-c-preserved : goal.loop-c-preserved
loop-c-preserved g c =
    let held = c.loop-c.invariant in
    let parts = c.in-Some.ensures.steps.0 in
    let utf8 = IsUtf8-past_char _ _ c.in-Some.c held.0 parts in
    grind (arith, append_assoc, shown_chars_step _ _ c.in-Some.c held.0 parts, utf8)

pub returns : goal.returns
returns g c = grind (arith, append-nil, shown_chars_empty)
