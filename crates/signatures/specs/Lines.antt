-- The lines of a text, and the words of a line.
use Rattle.std.specs.Prelude.{ℕ, List}
use Rattle.std.specs.List.{slice_split}
use Rattle.vcode_base.specs.LineWords.{words_of_line}
use Rattle.vcode_base.specs.Lines.{is_line_feed}
use Rattle.vcode_base.specs.declared.line_words.Parentheses.TheVariants.{AreWords}

-- the parts of a text round its LFs
abbrev pub lines : List ℕ → List (List ℕ)
lines text = slice_split is_line_feed text

-- the words of a line, of which each parenthesis is one
abbrev pub line_words : List ℕ → List (List ℕ)
line_words line = words_of_line AreWords line
