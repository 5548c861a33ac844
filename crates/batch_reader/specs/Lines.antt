-- The lines of a text and the words of a line.
use Rattle.std.specs.Prelude.{ℕ, ◌==◌, if◌then◌else◌, List, [], ◌∷◌}
use Rattle.std.specs.List.{onto_first}
use Rattle.vcode_base.specs.declared.line_words.Parentheses.TheVariants.{StandInWords}
use Rattle.vcode_base.specs.LineWords.{words_of_line}

-- the lines of a text, each with the LF that ends it, which the last may lack
unfoldable pub lines : List ℕ → List (List ℕ)
lines [] = []
lines (b ∷ bs) = if b == 10 then (b ∷ []) ∷ lines bs else onto_first b (lines bs)

-- the words of a line of a batch, in which a parenthesis is like other bytes
abbrev pub batch_words : List ℕ → List (List ℕ)
batch_words line = words_of_line StandInWords line
