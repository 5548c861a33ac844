-- Laws of what is shown.
use Rattle.std.specs.Prelude.{◌≡◌, ℕ, true, false, List, [], ◌∷◌, All}
use Rattle.ucd_table.specs.Rows.{Range, in_ranges}
use Rattle.shown_text.specs.Shown.{is_printable, shown_text}

-- what may change how a terminal shows other text: C0; DEL and C1, NEL among them; the mark of Arabic letters; blanks
-- and joiners without a width and the marks of direction; the separators of lines and paragraphs, embeddings and
-- overrides of direction; joiners, isolates and other formats; the mark of byte order
abbrev pub controls : List Range
controls =
    (0x0, 0x1F)
    ∷ (0x7F, 0x9F)
    ∷ (0x61C, 0x61C)
    ∷ (0x200B, 0x200F)
    ∷ (0x2028, 0x202E)
    ∷ (0x2060, 0x206F)
    ∷ (0xFEFF, 0xFEFF)
    ∷ []

-- none of these is printable
abbrev pub ControlsAreNotPrintable : Type 0
ControlsAreNotPrintable = (c : ℕ) → in_ranges controls c ≡ true → is_printable c ≡ false

-- each character of what is shown is printable
abbrev pub ShownIsPrintable : Type 0
ShownIsPrintable = (bs : List ℕ) → All (λ c. is_printable c ≡ true) (shown_text bs)
