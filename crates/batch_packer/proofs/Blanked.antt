-- The lines of a text whose first line that has words has none.
use Rattle.std.proofs.Common.{◌≡◌, ℕ, ◌+◌, ◌-◌, Bool, true, false, List, [], ◌∷◌, length, Ok, refl, arith}
use Rattle.std.proofs.Common.{if◌then◌else◌}
use Rattle.std.specs.Prelude.{◌==◌}
use Rattle.vcode_base.specs.LineWords.{is_separator, words_of_line}
use Rattle.vcode_base.specs.declared.rule.Rule.TheVariants.{First, Second}
use Rattle.batch_reader.specs.Batches.{JobText, batch_in, jobs_in, lines_behind_blanks}
use Rattle.batch_reader.specs.Headings.{BatchLine, heading_of, is_blank, numbered_lines}
use Rattle.batch_reader.specs.Lines.{batch_words, lines}
use Rattle.batch_packer.specs.Joins.{blank_to_feed, without_first_words}

-- the line has no words
abbrev is_blank_text : List ℕ → Bool
is_blank_text t = is_blank (heading_of (batch_words t))

-- ---- words

some_words : (w : List ℕ) (ws : List (List ℕ)) → is_blank (heading_of (w ∷ ws)) ≡ false
some_words w ws = grind arith

begins_word : (b : ℕ) (t : List ℕ) → is_separator b ≡ false → is_blank_text (b ∷ t) ≡ false
unfolding words_of_line
begins_word b t isnt = grind (arith, some_words)

words_behind : (b : ℕ) (t : List ℕ) → is_separator b ≡ true → batch_words (b ∷ t) ≡ batch_words t
unfolding words_of_line
words_behind b t is = rw is

no_words : batch_words [] ≡ []
unfolding words_of_line
no_words = refl

-- ---- lines

-- the first of these lines up to its LF
front_blanked : List (List ℕ) → List (List ℕ)
front_blanked [] = []
front_blanked (t ∷ ts) = blank_to_feed t ∷ ts

-- the first of these lines that has words
pub first_blanked : List (List ℕ) → List (List ℕ)
first_blanked [] = []
first_blanked (t ∷ ts) = if is_blank_text t then t ∷ first_blanked ts else without_first_words t ∷ ts

front_lines : (bs : List ℕ) → lines (blank_to_feed bs) ≡ front_blanked (lines bs)
unfolding lines front_blanked blank_to_feed
front_lines [] = refl
front_lines (b ∷ bs) = grind (arith, front_lines bs)

at_word : (b : ℕ) (bs : List ℕ) → is_separator b ≡ false
    → lines (blank_to_feed (b ∷ bs)) ≡ first_blanked (lines (b ∷ bs))
unfolding lines front_blanked first_blanked without_first_words
at_word b bs isnt = grind (arith, begins_word, front_lines (b ∷ bs))

pub blanked_lines : (bs : List ℕ) → lines (without_first_words bs) ≡ first_blanked (lines bs)
unfolding lines first_blanked without_first_words
blanked_lines [] = refl
blanked_lines (b ∷ bs) = grind (arith, at_word, words_behind, no_words, blanked_lines bs)

-- ---- a line that has no words left

-- an LF ends the text
abbrev IsLine : List ℕ → Type 0
IsLine [] = Unit {0}
IsLine (b ∷ []) = Unit {0}
IsLine (b ∷ c ∷ bs) = (b == 10 ≡ false) × IsLine (c ∷ bs)

abbrev pub AreLines : List (List ℕ) → Type 0
AreLines [] = Unit {0}
AreLines (t ∷ ts) = IsLine t × AreLines ts

pub are_lines : (bs : List ℕ) → AreLines (lines bs)
unfolding lines
are_lines [] = tt
are_lines (b ∷ bs) = grind (arith, are_lines bs)

front_blank : (t : List ℕ) → IsLine t → batch_words (blank_to_feed t) ≡ []
unfolding blank_to_feed words_of_line
front_blank [] line = refl
front_blank (b ∷ t) line = grind (arith, front_blank t)

without_words : (t : List ℕ) → IsLine t → batch_words (without_first_words t) ≡ []
unfolding without_first_words words_of_line
without_words [] line = refl
without_words (b ∷ t) line = grind (arith, front_blank (b ∷ t), without_words t)

-- ---- as long as before

front_length : (t : List ℕ) → length (blank_to_feed t) ≡ length t
unfolding blank_to_feed
front_length [] = refl
front_length (b ∷ t) = grind (arith, front_length t)

length_without : (t : List ℕ) → length (without_first_words t) ≡ length t
unfolding without_first_words
length_without [] = refl
length_without (b ∷ t) = grind (arith, front_length (b ∷ t), length_without t)

-- ---- jobs

pub jobs_none : (room : ℕ) → jobs_in room [] ≡ Ok []
unfolding jobs_in lines_behind_blanks
jobs_none room = grind arith

jobs_behind : (room : ℕ) (l : BatchLine) (ls : List BatchLine) → is_blank l.heading ≡ true
    → jobs_in room (l ∷ ls) ≡ jobs_in room ls
unfolding jobs_in lines_behind_blanks
jobs_behind room l ls is = grind arith

-- the jobs of a file under the first rule
pub first_jobs : (room : ℕ) (ls : List BatchLine) (jobs : List JobText) → batch_in room ls ≡ Ok (First, jobs)
    → jobs_in room ls ≡ Ok jobs
unfolding batch_in lines_behind_blanks
first_jobs room [] jobs h = grind (arith, jobs_none)
first_jobs room (l ∷ ls) jobs h = grind (arith, jobs_behind, first_jobs room ls jobs)

-- without the words of its rule line a file under the second rule has the same jobs
pub second_jobs : (room number left : ℕ) (ts : List (List ℕ)) (jobs : List JobText) → AreLines ts
    → batch_in room (numbered_lines number left ts) ≡ Ok (Second, jobs)
    → jobs_in room (numbered_lines number left (first_blanked ts)) ≡ Ok jobs
unfolding batch_in numbered_lines lines_behind_blanks first_blanked
second_jobs room number left [] jobs are h = absurd (grind arith)
second_jobs room number left (t ∷ ts) jobs are h =
    grind (
      arith,
      length_without t,
      without_words t are.0,
      jobs_behind,
      second_jobs room (number + 1) (left - length t) ts jobs are.1,
    )
