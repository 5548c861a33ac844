-- Texts of lines that a terminal shows as it is.
use Rattle.std.specs.Prelude.{◌≡◌, ◌⊎◌, ℕ, true, List}
use Rattle.std.specs.List.{All}
use Rattle.std.specs.Str.{chars}
use Rattle.shown_text.specs.Shown.{is_printable}

-- the character is LF or printable
abbrev pub IsOfLines : ℕ → Type 0
IsOfLines c = (c ≡ 10) ⊎ (is_printable c ≡ true)

-- each character of the text is
abbrev pub HasShownLines : List ℕ → Type 0
HasShownLines bs = All IsOfLines (chars bs)
