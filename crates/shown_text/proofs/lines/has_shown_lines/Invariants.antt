-- The text has such lines exactly if what is left of it has.
use Rattle.std.proofs.Common.{◌↔◌, IsUtf8}
use Rattle.std.specs.Str.Iter.{chars_rest}
use Rattle.shown_text.specs.Lines.{HasShownLines}
use Rattle.shown_text.proofs.lines.has_shown_lines.Given as goal

abbrev pub invariant-loop-c : goal.invariant-loop-c
invariant-loop-c l =
    IsUtf8 (chars_rest l.c-iterator)
    × (HasShownLines (chars_rest l.c-iterator) ↔ HasShownLines l.text)
