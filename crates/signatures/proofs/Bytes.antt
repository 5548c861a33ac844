-- The bytes of a line that says a signature.
use Rattle.std.proofs.Common.{◌≡◌, ℕ, Bool, true, false, ◌||◌, cond, refl, arith}
use Rattle.std.proofs.Common.{List, [], ◌∷◌, ◌++◌, map}
use Rattle.std.specs.List.{list_all, list_any}
use Rattle.std.specs.Prelude.{codes}
use Rattle.vcode_base.specs.declared.kind.Kind.{Kind}
use Rattle.vcode_base.specs.declared.line_words.Parentheses.TheVariants.{AreWords}
use Rattle.vcode_base.specs.LineWords.{words_of_line, is_separator, is_parenthesis, begins_plain, with_plain}
use Rattle.vcode_base.specs.Lines.{is_line_feed}
use Rattle.signatures.specs.Spelling.{GoodLinesHaveGoodBytes, word_of, is_name, is_name_byte, is_line_byte}

-- a byte that may be in a word
abbrev is_word_byte : ℕ → Bool
is_word_byte b = is_parenthesis b || is_name_byte b

abbrev are_good : List (List ℕ) → Bool
are_good ws = list_all (list_all is_word_byte) ws

-- a byte before the words of the text after it
one_byte : (b : ℕ) (p : Bool) (bs : List ℕ) (ws : List (List ℕ)) → list_any is_line_feed (b ∷ bs) ≡ false
    → are_good (cond (is_separator b) ws (cond (is_parenthesis b) ((b ∷ []) ∷ ws) (with_plain b p ws))) ≡ true
    → (is_line_byte b ≡ true) × (list_any is_line_feed bs ≡ false) × (are_good ws ≡ true)
one_byte b p bs ws e h = grind arith

of_words : (bs : List ℕ) → list_any is_line_feed bs ≡ false → are_good (words_of_line AreWords bs) ≡ true
    → list_all is_line_byte bs ≡ true
unfolding words_of_line
of_words [] e h = refl
of_words (b ∷ bs) e h =
    let p = one_byte b (begins_plain AreWords bs) bs (words_of_line AreWords bs) e h in
    grind (arith, p, of_words bs p.1 p.2)

of_name : (t : List ℕ) → is_name t ≡ true → list_all is_word_byte t ≡ true
of_name [] h = refl
of_name (b ∷ t) h = grind (arith, of_name t)

of_kinds : (ks : List Kind) (more : List (List ℕ)) → are_good more ≡ true
    → are_good (map word_of ks ++ codes ")" ∷ more) ≡ true
of_kinds [] more h = h
of_kinds (k ∷ ks) more h = grind (arith, of_kinds ks more h)

pub good_lines_have_good_bytes : GoodLinesHaveGoodBytes
good_lines_have_good_bytes line s e h = of_words line e (grind (arith, h.words_are, of_name, of_kinds))
