-- A batch with texts before the lines that end the signature lines of its jobs.
use Rattle.std.specs.Prelude.{ℕ, Bool, true, false, if◌then◌else◌, List, [], ◌∷◌, ◌++◌}
use Rattle.batch_reader.specs.Headings.{heading_of}
use Rattle.batch_reader.specs.Lines.{batch_words}
use Rattle.batch_reader.specs.Sections.{section_after}
use Rattle.batch_reader.specs.declared.section.Section.{Section}
use Rattle.batch_reader.specs.declared.section.Section.TheVariants.{Signatures, Code}

-- the section of the line after this one
abbrev pub next_section : Section → List ℕ → Section
next_section section line = section_after section (heading_of (batch_words line))

-- a line between these sections ends the signature lines of a job
abbrev pub ends_signatures : Section → Section → Bool
ends_signatures Signatures Code = true
ends_signatures _ next = false

-- the first of some texts, and the others
abbrev pub first_text : List (List ℕ) → List ℕ
first_text [] = []
first_text (text ∷ texts) = text

abbrev pub other_texts : List (List ℕ) → List (List ℕ)
other_texts [] = []
other_texts (text ∷ texts) = texts

-- what comes before a line between these sections, and which of the texts are left after it
abbrev pub text_before : Section → Section → List (List ℕ) → List ℕ
text_before section next texts = if ends_signatures section next then first_text texts else []

abbrev pub texts_after : Section → Section → List (List ℕ) → List (List ℕ)
texts_after section next texts = if ends_signatures section next then other_texts texts else texts

-- lines of a batch, the first of which belongs to this section, with these texts between them
unfoldable pub filled : Section → List (List ℕ) → List (List ℕ) → List ℕ
filled section texts [] = []
filled section texts (line ∷ lines) =
    let next = next_section section line in
    text_before section next texts ++ (line ++ filled next (texts_after section next texts) lines)
