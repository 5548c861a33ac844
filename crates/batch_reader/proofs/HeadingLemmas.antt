-- Lines that are no heading.
use Rattle.std.proofs.Common.{◌≡◌, ◌∙◌, ℕ, true, false, ◌==◌, List, [], ◌∷◌, ◌++◌, length, refl, ap, codes, inl, inr}
use Rattle.std.proofs.Common.{◌<◌, arith, rules, get_or}
use Rattle.std.specs.Str.{bytes_eq}
use Rattle.std.proofs.lemmas.Bool.{cases_Bool, false_from_ne_true}
use Rattle.std.proofs.lemmas.Bool.Decides.{nat_tests}
use Rattle.std.proofs.lemmas.Slice.Eq.{bytes_eq-Decides}
use Rattle.vcode_base.specs.LineWords.{words_of_line, is_separator}
use Rattle.batch_reader.specs.Blocks.{is_end}
use Rattle.batch_reader.specs.Headings.{heading_of, may_begin_end, may_begin_heading, may_go_on_in_code}
use Rattle.batch_reader.specs.Lines.{batch_words}
use Rattle.batch_reader.specs.declared.heading.Heading.TheVariants.{Other}

-- ---- the first word of a line

-- no byte follows, or one that separates words
abbrev pub EndsWord : List ℕ → Type 0
EndsWord [] = Unit {0}
EndsWord (b ∷ bs) = is_separator b ≡ true

-- a byte that doesn't stand between words joins the word that follows it at once
joins_word : (x y : ℕ) (ys t : List ℕ) (rest : List (List ℕ)) → is_separator x ≡ false → is_separator y ≡ false
    → batch_words (y ∷ ys) ≡ t ∷ rest → batch_words (x ∷ y ∷ ys) ≡ (x ∷ t) ∷ rest
unfolding words_of_line
joins_word x y ys t rest h k e = grind arith

-- the word at the front of a line, which begins with the line's first byte
record FirstWord (x : ℕ) (xs : List ℕ) : Type 0 where
  word : List ℕ
  others : List (List ℕ)
  rest : List ℕ
  words : batch_words (x ∷ xs) ≡ (x ∷ word) ∷ others
  parts : xs ≡ word ++ rest
  ends : EndsWord rest

word_at : (x : ℕ) (xs : List ℕ) → is_separator x ≡ false → FirstWord x xs
unfolding words_of_line
word_at x [] h = record { word = []; others = []; rest = []; words = rw h refl; parts = refl; ends = tt }
word_at x (y ∷ ys) h =
    elim (cases_Bool (is_separator y)) [
      | inl is ↦ record {
        word = [];
        others = batch_words (y ∷ ys);
        rest = y ∷ ys;
        words = rw (h, is) refl;
        parts = refl;
        ends = is;
      }
      | inr is ↦ let w = word_at y ys is in record {
        word = y ∷ w.word;
        others = w.others;
        rest = w.rest;
        words = joins_word x y ys (y ∷ w.word) w.others h is w.words;
        parts = ap (λ t. y ∷ t) w.parts;
        ends = w.ends;
      }
    ]

-- ---- lines that are no heading

-- a line that begins with a byte of no heading
pub other_line : (t : List ℕ) → (length t == 0) ≡ false → may_begin_heading (get_or t 0 0) ≡ false
    → heading_of (batch_words t) ≡ Other
other_line [] some h = cc
other_line (x ∷ xs) some h =
    let plain : is_separator x ≡ false = grind (arith, nat_tests) in rw (word_at x xs plain).words (search rules)

pub no_end_in_none : (t : List ℕ) → (length t == 0) ≡ true → is_end (heading_of (batch_words t)) ≡ false
unfolding words_of_line
no_end_in_none [] none = refl
no_end_in_none (x ∷ xs) none = absurd (grind (arith, nat_tests))

-- a line that begins with another byte than END does
pub no_end : (t : List ℕ) → may_begin_end (get_or t 0 0) ≡ false → is_end (heading_of (batch_words t)) ≡ false
no_end [] h = cc
no_end (x ∷ xs) h =
    let plain : is_separator x ≡ false = grind (arith, nat_tests) in rw (word_at x xs plain).words (search rules)

-- a line that begins with C, and whose first word isn't CODE
pub other_in_code : (t : List ℕ) → get_or t 0 0 ≡ 67 → 2 < length t
    → may_go_on_in_code (get_or t 1 0) (get_or t 2 0) ≡ false → heading_of (batch_words t) ≡ Other
other_in_code (x ∷ y ∷ z ∷ zs) c long h =
    let z_in : is_separator z ≡ false = grind (arith, nat_tests) in
    let y_in : is_separator y ≡ false = grind (arith, nat_tests) in
    let x_in : is_separator x ≡ false = grind (arith, nat_tests) in
    let first = word_at z zs z_in in
    let after = joins_word y z zs (z ∷ first.word) first.others y_in z_in first.words in
    rw (joins_word x y (z ∷ zs) (y ∷ z ∷ first.word) first.others x_in y_in after) (search rules)
other_in_code _ c long h = absurd (omega arith)

-- ---- lines that are END

abbrev pub HoldsNoD : List ℕ → Type 0
HoldsNoD [] = Unit {0}
HoldsNoD (b ∷ bs) = ((b == 68) ≡ false) × HoldsNoD bs

is_end_word : (w : List ℕ) (ws : List (List ℕ)) → is_end (heading_of (w ∷ ws)) ≡ true → bytes_eq w (codes "END") ≡ true
is_end_word w ws h = search rules

-- a line that is END: its only D ends that word
pub record EndLine (t : List ℕ) : Type 0 where
  pub front : List ℕ
  pub rest : List ℕ
  pub parts : t ≡ front ++ 69 ∷ 78 ∷ 68 ∷ rest
  pub lacks : HoldsNoD front
  pub ends : EndsWord rest

pub end_line : (t : List ℕ) → is_end (heading_of (batch_words t)) ≡ true → EndLine t
unfolding words_of_line
end_line [] h = cc
end_line (x ∷ xs) h =
    elim (cases_Bool (is_separator x)) [
      | inl is ↦ let e = end_line xs (rw is at h) in record {
        front = x ∷ e.front;
        rest = e.rest;
        parts = ap (λ t. x ∷ t) e.parts;
        lacks = (grind (arith, nat_tests), e.lacks);
        ends = e.ends;
      }
      | inr is ↦ let w = word_at x xs is in
          let end = is_end_word (x ∷ w.word) w.others (rw w.words at h) in record {
            front = [];
            rest = w.rest;
            parts = ap (λ t. x ∷ t) w.parts
                ∙ ap (λ t. t ++ w.rest) ((bytes_eq-Decides (x ∷ w.word) (codes "END")).0 end);
            lacks = tt;
            ends = w.ends;
          }
    ]

pub no_d_in_front : (xs ys : List ℕ) → HoldsNoD (xs ++ ys) → HoldsNoD xs
no_d_in_front [] ys h = tt
no_d_in_front (x ∷ xs) ys h = (h.0, no_d_in_front xs ys h.1)

pub no_d_in_rest : (xs ys : List ℕ) → HoldsNoD (xs ++ ys) → HoldsNoD ys
no_d_in_rest [] ys h = h
no_d_in_rest (x ∷ xs) ys h = no_d_in_rest xs ys h.1

pub no_end_by : (t : List ℕ) → (EndLine t → ⊥) → is_end (heading_of (batch_words t)) ≡ false
no_end_by t none = false_from_ne_true (is_end (heading_of (batch_words t))) (λ is. none (end_line t is))

-- a line without a D isn't END
pub no_end_without_d : (t : List ℕ) → HoldsNoD t → is_end (heading_of (batch_words t)) ≡ false
no_end_without_d t h = grind (arith, no_end_by, no_d_in_rest)
