-- What was appended, with what is shown of the bytes that are left, is what is shown of all.
use Rattle.std.proofs.Common.{◌≡◌, ◌++◌, drop, flat_map, string_bytes, encode_utf8_all}
use Rattle.shown_text.specs.Shown.{shown_byte}
use Rattle.shown_text.proofs.push_bytes.Given as goal

abbrev pub invariant-loop-byte : goal.invariant-loop-byte
invariant-loop-byte g l =
    string_bytes l.text ++ encode_utf8_all (flat_map shown_byte (drop l.byte-index l.invalid))
    ≡ string_bytes l.fn.text ++ encode_utf8_all (flat_map shown_byte l.invalid)
