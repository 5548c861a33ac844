-- What was appended, with what is shown of the characters that are left, is what is shown of all.
use Rattle.std.proofs.Common.{◌≡◌, ◌++◌, IsUtf8, chars, flat_map, string_bytes, encode_utf8_all}
use Rattle.std.specs.Str.Iter.{chars_rest}
use Rattle.shown_text.specs.Shown.{shown_char}
use Rattle.shown_text.proofs.push_text.Given as goal

abbrev pub invariant-loop-c : goal.invariant-loop-c
invariant-loop-c g l =
    IsUtf8 (chars_rest l.c-iterator)
    × (string_bytes l.text ++ encode_utf8_all (flat_map shown_char (chars (chars_rest l.c-iterator)))
    ≡ string_bytes l.fn.text ++ encode_utf8_all (flat_map shown_char (chars l.fn.valid)))
