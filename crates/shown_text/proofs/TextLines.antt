-- Texts of lines, character by character.
use Rattle.std.proofs.Common.{arith, ◌≡◌, ◌↔◌, ℕ, List, ◌++◌, length, Result, IfOk, String, string_bytes, chars}
use Rattle.std.proofs.Common.{encode_utf8, encode_utf8_all, IsUtf8}
use Rattle.std.proofs.lemmas.Str.{chars_past_char, chars-nil, chars_from_encodes, IsUtf8-string_bytes}
use Rattle.std.proofs.lemmas.List.{nil_from_length}
use Rattle.std.proofs.lemmas.List.Elements.{All-cons, All-tail}
use Rattle.shown_text.specs.Lines.{IsOfLines, HasShownLines}
use Rattle.shown_text.specs.Shown.{shown_text}
use Rattle.shown_text.proofs.Printable.{shown_is_printable}

-- if the first character of a text is of lines, the text has such lines exactly if its rest has
pub lines_step : (text rest : List ℕ) (c : ℕ) → IsUtf8 text → text ≡ encode_utf8 c ++ rest → IsOfLines c
    → HasShownLines rest ↔ HasShownLines text
lines_step text rest c utf8 parts fits =
    rw (chars_past_char text rest c utf8 parts)
    (λ h. All-cons IsOfLines c (chars rest) fits h, λ h. All-tail IsOfLines c (chars rest) h)

-- the empty text has them
pub no_lines : (text : List ℕ) → length text ≡ 0 → HasShownLines text
no_lines text none = grind (arith, nil_from_length text none, chars-nil)

-- what is shown of bytes is one such line
pub shown_has_lines : {Z E : Type 0} (bs : List ℕ) (r : Result (String Z) E)
    → IfOk r (λ text. string_bytes text ≡ encode_utf8_all (shown_text bs))
    → IfOk r (λ text. HasShownLines (string_bytes text))
shown_has_lines bs r e =
    grind (arith, chars_from_encodes (shown_text bs), IsUtf8-string_bytes, shown_is_printable bs)
