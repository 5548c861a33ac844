-- What was appended, with what is left of the escape, is the escape.
use Rattle.std.proofs.Common.{◌≡◌, ◌≤◌, ◌++◌, string_bytes, encode_utf8_all}
use Rattle.std.specs.Char.Iter.{escape_byte_rest, escape_byte_end}
use Rattle.std.specs.Char.Escape.{escape_ascii}
use Rattle.shown_text.proofs.push_byte.Given as goal

abbrev pub invariant-loop-part : goal.invariant-loop-part
invariant-loop-part g l =
    (escape_byte_end l.part-iterator ≤ 4)
    × (string_bytes l.text ++ encode_utf8_all (escape_byte_rest l.part-iterator)
    ≡ string_bytes l.fn.text ++ encode_utf8_all (escape_ascii l.byte))
