-- The lines up to the one at which a part of a job ends.
use Rattle.std.specs.Prelude.{ℕ, Bool, true, false, ◌||◌, if◌then◌else◌, List, [], ◌∷◌, ◌++◌, Option, Some, None}
use Rattle.batch_reader.specs.declared.heading.Heading.{Heading}
use Rattle.batch_reader.specs.declared.heading.Heading.TheVariants.{Code, End}
use Rattle.batch_reader.specs.Headings.{BatchLine}

-- the headings at which the signature lines end: only the first is their own end
abbrev pub ends_signatures : Heading → Bool
ends_signatures Code = true
ends_signatures End = true
ends_signatures _ = false

abbrev pub is_code : Heading → Bool
is_code Code = true
is_code _ = false

abbrev pub is_end : Heading → Bool
is_end End = true
is_end _ = false

-- lines joined, the line that ends them, if one does, and those after it
pub record Block : Type 0 where
  pub text : List ℕ
  pub end : Option BatchLine
  pub rest : List BatchLine

-- the block with this text before its own
abbrev pub longer_block : List ℕ → Block → Block
longer_block text b = record { text = text ++ b.text; end = b.end; rest = b.rest }

-- the lines before the first of such a heading, or before the line that holds the first byte past the limit
unfoldable pub block_of : (Heading → Bool) → List BatchLine → Block
block_of ends [] = record { text = []; end = None; rest = [] }
block_of ends (l ∷ ls) =
    if l.is_past || ends l.heading then record { text = []; end = Some l; rest = ls }
    else longer_block l.text (block_of ends ls)
