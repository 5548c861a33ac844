-- What was made, with what is shown of the bytes that are left, is what is shown of all.
use Rattle.std.proofs.Common.{◌≡◌, ◌++◌, string_bytes, encode_utf8_all}
use Rattle.std.specs.Str.Chunks.{utf8_chunks_rest}
use Rattle.shown_text.specs.Shown.{shown_text}
use Rattle.shown_text.proofs.shown.Given as goal

abbrev pub invariant-loop-chunk : goal.invariant-loop-chunk
invariant-loop-chunk g l =
    string_bytes l.text ++ encode_utf8_all (shown_text (utf8_chunks_rest l.chunk-iterator))
    ≡ encode_utf8_all (shown_text l.fn.bytes)
