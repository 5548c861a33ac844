-- The words of a text with their lines: what each byte does, whatever is made of a word.
use Rattle.std.specs.Prelude.{ℕ, ◌+◌, List, [], ◌∷◌, ◌++◌, Option, Some, None}
use Rattle.vcode_reader.specs.declared.class.Class.{Class}
use Rattle.vcode_reader.specs.declared.class.Class.TheVariants.{LineFeed, Blank, OpenBrace, CloseBrace, Parenthesis}
use Rattle.vcode_reader.specs.declared.class.Class.TheVariants.{Plain, Refused}
use Rattle.vcode_reader.specs.Classes.{class_of}

-- a word with its line
pub record Word : Type 0 where
  pub text : List ℕ
  pub line : ℕ

-- the state of a text: the reading of its whole words, the line, the bytes of the open word, the line at which the open
-- comment began
pub record Scan (P : Type 0) : Type 0 where
  pub found : P
  pub line : ℕ
  pub word : List ℕ
  pub comment : Option ℕ

-- what a word with its line makes of the reading of the words before it
abbrev pub Emit : Type 0 → Type 0
Emit P = List ℕ → ℕ → P → P

abbrev pub beginning : {P : Type 0} → P → ℕ → Scan P
beginning nothing first = record { found = nothing; line = first; word = []; comment = None }

abbrev pub ends_word : {P : Type 0} → Emit P → List ℕ → Scan P → Scan P
ends_word emit [] s = s
ends_word emit (b ∷ t) s = record s { found = emit (b ∷ t) s.line s.found; word = [] }

-- the open word, if any, ends
unfoldable pub end_word : {P : Type 0} → Emit P → Scan P → Scan P
end_word emit s = ends_word emit s.word s

-- a byte that is a word by itself
unfoldable pub lone_word : {P : Type 0} → Emit P → ℕ → Scan P → Scan P
lone_word emit b s = record s { found = emit (b ∷ []) s.line s.found }

abbrev pub in_text : {P : Type 0} → Emit P → Class → ℕ → Scan P → Scan P
in_text emit LineFeed b s = let e = end_word emit s in record e { line = e.line + 1 }
in_text emit Blank b s = end_word emit s
in_text emit OpenBrace b s = let e = end_word emit s in record e { comment = Some e.line }
in_text emit CloseBrace b s = lone_word emit b (end_word emit s)
in_text emit Parenthesis b s = lone_word emit b (end_word emit s)
in_text emit Refused b s = lone_word emit b (end_word emit s)
in_text emit Plain b s = record s { word = s.word ++ b ∷ [] }

abbrev pub in_comment : {P : Type 0} → Class → Scan P → Scan P
in_comment LineFeed s = record s { line = s.line + 1 }
in_comment CloseBrace s = record s { comment = None }
in_comment _ s = s

abbrev pub by_comment : {P : Type 0} → Emit P → Option ℕ → Class → ℕ → Scan P → Scan P
by_comment emit None c b s = in_text emit c b s
by_comment emit (Some begun) c b s = in_comment c s

-- one byte more
unfoldable pub scan_byte : {P : Type 0} → Emit P → Scan P → ℕ → Scan P
scan_byte emit s b = by_comment emit s.comment (class_of b) b s

-- some bytes more
unfoldable pub scan_all : {P : Type 0} → Emit P → Scan P → List ℕ → Scan P
scan_all emit s [] = s
scan_all emit s (b ∷ bs) = scan_all emit (scan_byte emit s b) bs

abbrev pub add_word : Emit (List Word)
add_word t l ws = ws ++ record { text = t; line = l } ∷ []

abbrev pub scan_of : ℕ → List ℕ → Scan (List Word)
scan_of first bytes = end_word add_word (scan_all add_word (beginning [] first) bytes)

-- the words of a text whose first line has this number
abbrev pub words : ℕ → List ℕ → List Word
words first bytes = (scan_of first bytes).found

-- the line of a comment that the text leaves open
abbrev pub open_comment : ℕ → List ℕ → Option ℕ
open_comment first bytes = (scan_of first bytes).comment
