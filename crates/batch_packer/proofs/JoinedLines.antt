-- The lines of texts that are joined.
use Rattle.std.proofs.Common.{◌≡◌, ℕ, ◌+◌, ◌-◌, ◌≤◌, List, [], ◌∷◌, ◌++◌, length, refl, arith}
use Rattle.std.proofs.lemmas.Bool.Decides.{nat_tests}
use Rattle.vcode_base.specs.Lines.{line_feeds}
use Rattle.vcode_base.specs.LineWords.{words_of_line}
use Rattle.batch_reader.specs.Headings.{BatchLine, line_of, numbered_lines}
use Rattle.batch_reader.specs.Lines.{batch_words, lines}
use Rattle.batch_packer.specs.Joins.{with_last_feed}
use Rattle.batch_packer.proofs.Continued.{IsContinued}

-- ---- lines that are all within the limit

unfoldable pub plain_lines : ℕ → List (List ℕ) → List BatchLine
plain_lines number [] = []
plain_lines number (t ∷ ts) = line_of number t ∷ plain_lines (number + 1) ts

-- the bytes of lines
bytes_in : List (List ℕ) → ℕ
bytes_in [] = 0
bytes_in (t ∷ ts) = length t + bytes_in ts

bytes_of_lines : (bs : List ℕ) → bytes_in (lines bs) ≡ length bs
unfolding lines bytes_in
bytes_of_lines [] = refl
bytes_of_lines (b ∷ bs) = grind (arith, bytes_of_lines bs)

numbered_plain : (number left : ℕ) (ts : List (List ℕ)) → bytes_in ts ≤ left
    → numbered_lines number left ts ≡ plain_lines number ts
unfolding bytes_in plain_lines numbered_lines
numbered_plain number left [] h = refl
numbered_plain number left (t ∷ ts) h =
    grind (arith, nat_tests, numbered_plain (number + 1) (left - length t) ts)

pub fitting_lines : (bytes : List ℕ) (left : ℕ) → length bytes ≤ left
    → numbered_lines 1 left (lines bytes) ≡ plain_lines 1 (lines bytes)
fitting_lines bytes left fits = numbered_plain 1 left (lines bytes) (omega (arith, bytes_of_lines bytes))

pub plain_append : (number : ℕ) (ts us : List (List ℕ))
    → plain_lines number (ts ++ us) ≡ plain_lines number ts ++ plain_lines (number + length ts) us
unfolding plain_lines
plain_append number [] us = grind arith
plain_append number (t ∷ ts) us = grind (arith, plain_append (number + 1) ts us)

-- ---- the last LF

-- lines of which the last ends by an LF too
pub ended : List (List ℕ) → List (List ℕ)
ended [] = []
ended (t ∷ []) = with_last_feed t ∷ []
ended (t ∷ u ∷ ts) = t ∷ ended (u ∷ ts)

pub length_ended : (ts : List (List ℕ)) → length (ended ts) ≡ length ts
unfolding ended
length_ended (t ∷ u ∷ ts) = grind (arith, length_ended (u ∷ ts))
length_ended ts = refl

-- the lines of a text that ends by an LF, and those of what follows
pub lines_joined : (text more : List ℕ) → lines (with_last_feed text ++ more) ≡ ended (lines text) ++ lines more
unfolding lines ended with_last_feed
lines_joined (b ∷ c ∷ bs) more = grind (arith, lines_joined (c ∷ bs) more)
lines_joined text more = grind arith

-- a text that ends by an LF has one for each line
pub feeds_of_text : (text : List ℕ) → line_feeds (with_last_feed text) ≡ length (lines text)
unfolding lines with_last_feed
feeds_of_text (b ∷ c ∷ bs) = grind (arith, feeds_of_text (c ∷ bs))
feeds_of_text text = grind arith

-- an LF at the end of a line is no part of its words
words_fed : (text : List ℕ) → batch_words (with_last_feed text) ≡ batch_words text
unfolding with_last_feed words_of_line
words_fed (b ∷ c ∷ bs) = grind (arith, words_fed (c ∷ bs))
words_fed text = grind arith

-- the lines of a file further on in a batch
pub continued_lines : (d number left : ℕ) (more : List BatchLine) (ts : List (List ℕ))
    → IsContinued d more (numbered_lines number left ts) (plain_lines (number + d) (ended ts) ++ more)
unfolding ended plain_lines numbered_lines
continued_lines d number left more (t ∷ u ∷ ts) =
    grind (arith, continued_lines d (number + 1) (left - length t) more (u ∷ ts))
continued_lines d number left more ts = grind (arith, words_fed)
