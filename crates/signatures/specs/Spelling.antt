-- Which line says which signature.
use Rattle.std.specs.Prelude.{◌≡◌, ◌≤◌, ◌<◌, ℕ, ◌==◌, ◌||◌, ◌&&◌, not, Bool, true, false}
use Rattle.std.specs.Prelude.{List, [], ◌∷◌, ◌++◌, map, length, codes}
use Rattle.std.specs.List.{list_all, list_any}
use Rattle.vcode_base.specs.declared.kind.Kind.{Kind}
use Rattle.vcode_base.specs.declared.kind.Kind.TheVariants.{Int, Bool as BoolKind, Segdes}
use Rattle.vcode_base.specs.declared.limits.TheConstants.{LONGEST_NAME, MOST_FUNCTIONS, MOST_KINDS}
use Rattle.vcode_base.specs.Bytes.{is_visible}
use Rattle.vcode_base.specs.LineWords.{is_separator, is_parenthesis}
use Rattle.vcode_base.specs.Lines.{is_line_feed}
use Rattle.signatures.specs.Lines.{line_words}
use Rattle.signatures.specs.Signatures.{Signature}

abbrev pub word_of : Kind → List ℕ
word_of Int = codes "INT"
word_of BoolKind = codes "BOOL"
word_of Segdes = codes "SEGDES"

-- the words of a list of kinds in parentheses, and further words
abbrev pub list_words : List Kind → List (List ℕ) → List (List ℕ)
list_words ks more = codes "(" ∷ (map word_of ks ++ codes ")" ∷ more)

-- the words of the kinds: (kinds) -> (kinds)
abbrev pub arrow_words : List Kind → List Kind → List (List ℕ)
arrow_words operands results = list_words operands (codes "->" ∷ list_words results [])

-- the words of a signature: NAME (kinds) -> (kinds)
abbrev pub signature_words : Signature → List (List ℕ)
signature_words s = s.name ∷ arrow_words s.operands s.results

-- visible, without parentheses and braces
abbrev pub is_name_byte : ℕ → Bool
is_name_byte b = is_visible b && not (is_parenthesis b || b == 123 || b == 125)

abbrev pub is_name : List ℕ → Bool
is_name = list_all is_name_byte

-- the line says this signature
pub record Says (line : List ℕ) (s : Signature) : Type 0 where
  pub words_are : line_words line ≡ signature_words s
  pub name : is_name s.name ≡ true

-- blank, tab, CR, a parenthesis or a byte of a name
abbrev pub is_line_byte : ℕ → Bool
is_line_byte b = (is_separator b && not (is_line_feed b)) || is_parenthesis b || is_name_byte b

-- a line, which holds no LF, has no other bytes if it says a signature
abbrev pub GoodLinesHaveGoodBytes : Type 0
GoodLinesHaveGoodBytes =
    (line : List ℕ) (s : Signature) → list_any is_line_feed line ≡ false → Says line s
    → list_all is_line_byte line ≡ true

-- a signature that fits the limits after those before it
pub record Fits (known : List Signature) (s : Signature) : Type 0 where
  pub name : length s.name ≤ LONGEST_NAME
  pub operands : length s.operands ≤ MOST_KINDS
  pub results : length s.results ≤ MOST_KINDS
  pub few : length known < MOST_FUNCTIONS
