-- The words of a line.
use Rattle.std.specs.Prelude.{ℕ, ◌==◌, ◌||◌, Bool, true, false, not, if◌then◌else◌, List, [], ◌∷◌}
use Rattle.std.specs.List.{onto_first}
use Rattle.vcode_base.specs.declared.line_words.Parentheses.{Parentheses}
use Rattle.vcode_base.specs.declared.line_words.Parentheses.TheVariants.{AreWords, StandInWords}

-- blank, tab, CR, and the LF that ends a line
abbrev pub is_separator : ℕ → Bool
is_separator b = b == 32 || b == 9 || b == 13 || b == 10

abbrev pub is_parenthesis : ℕ → Bool
is_parenthesis b = b == 40 || b == 41

-- the byte is a word by itself
abbrev pub stands_alone : Parentheses → ℕ → Bool
stands_alone AreWords b = is_parenthesis b
stands_alone StandInWords b = false

-- a byte that forms a word together with its neighbours
abbrev pub is_plain : Parentheses → ℕ → Bool
is_plain p b = not (is_separator b || stands_alone p b)

abbrev pub begins_plain : Parentheses → List ℕ → Bool
begins_plain p [] = false
begins_plain p (b ∷ bs) = is_plain p b

abbrev pub begins_with_word : List ℕ → Bool
begins_with_word [] = false
begins_with_word (b ∷ bs) = not (is_separator b)

-- a plain byte before the words of the text after it: it begins the first of them if that begins with a plain byte
abbrev pub with_plain : ℕ → Bool → List (List ℕ) → List (List ℕ)
with_plain b true ws = onto_first b ws
with_plain b false ws = (b ∷ []) ∷ ws

-- the words of a line: each parenthesis or other byte that is a word alone, and each run of plain bytes
unfoldable pub words_of_line : Parentheses → List ℕ → List (List ℕ)
words_of_line p [] = []
words_of_line p (b ∷ bs) =
    if is_separator b then words_of_line p bs
    else if stands_alone p b then (b ∷ []) ∷ words_of_line p bs
    else with_plain b (begins_plain p bs) (words_of_line p bs)
