-- What a fault of the arguments says.
use Rattle.std.specs.Prelude.{◌≡◌, ℕ, List, string_bytes, encode_utf8_all}
use Rattle.std.specs.Str.{IsUtf8}
use Rattle.shown_text.specs.declared.argument.ArgumentFault.{ArgumentFault}
use Rattle.shown_text.specs.declared.argument.ArgumentFault.TheVariants.{NotText, Memory}
use Rattle.shown_text.specs.Shown.{shown_text}

-- a fault that names an argument shows bytes that are no text
abbrev pub ShowsNoText : ArgumentFault → Type 0
ShowsNoText (NotText number text) = (bs : List ℕ) × (¬ (IsUtf8 bs))
    × (string_bytes text ≡ encode_utf8_all (shown_text bs))
ShowsNoText Memory = Unit {0}
