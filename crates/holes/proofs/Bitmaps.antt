-- The words of a bitmap after its lowest words were shifted out.
use Rattle.std.proofs.Common.{◌≡◌, ℕ, ◌+◌, ◌-◌, ◌*◌, ◌/◌, ◌%◌, ◌^◌, ◌<◌, ◌≤◌, max, Bool, true, false, eqb, cond, List}
use Rattle.std.proofs.Common.{[], ◌∷◌, ◌++◌, length, sym, ◌∙◌, ap, inl, inr, arith, zero, suc, rules}
use Rattle.std.specs.Prelude.{replicate}
use Rattle.std.specs.Int.{bit_at, bit_not, w64, trailing_zeros, trailing_ones, leading_ones}
use Rattle.std.specs.Int.Count.{count_leading_zeros, ones, ones_step}
use Rattle.std.proofs.lemmas.Bool.{cases_eq, eq-eqb, ne_eqb, eqb-true}
use Rattle.std.proofs.lemmas.List.{length-replicate}
use Rattle.std.proofs.lemmas.Nat.{shr-shr, shr_le, shr_below, leading_top}
use Rattle.std.proofs.lemmas.Nat.Bits.{bit_at-trailing_zeros, bit_at-trailing_ones, bit_at_above, bit_at-zero}
use Rattle.std.proofs.lemmas.Nat.Bits.{bit_at_not, bit_at-lt, bit_at-suc, bit_at_lowest}
use Rattle.holes.specs.declared.summary.Summary.{Summary}
use Rattle.holes.specs.FreeWords.{front_run, widest}
use Rattle.holes.specs.Tree.{is_set, words_from, words_of_bits, all_free, back_run, lowest_fit, summary, nothing_free}
use Rattle.holes.proofs.Runs.{front_all, front-le-widest, widest-le-length, front-append, back-append, all_free-append}
use Rattle.holes.proofs.Runs.{widest-append, back_all, lowest-append_left, lowest-append_right}
use Rattle.holes.proofs.Runs.{lowest_front, lowest_within}
use Rattle.holes.proofs.Bits.{same_words_from, words_from-add, all_words, length-words}

-- words of one kind
one_kind : (n : ℕ) (value : Bool) → (front_run (replicate n value) ≡ cond value n 0)
    × (back_run (replicate n value) ≡ cond value n 0) × (widest (replicate n value) ≡ cond value n 0)
    × (value ≡ true → all_free (replicate n value) ≡ true)
one_kind zero value = grind arith
one_kind (suc n) value = grind (arith, one_kind n value, length-replicate n value)

back-le-widest : (free : List Bool) → back_run free ≤ widest free
back-le-widest [] = omega arith
back-le-widest (word ∷ free) = grind (arith, front_all, back-le-widest free)

-- Words that aren't free change nothing.
pub widest_behind : (free : List Bool) (n : ℕ) → widest (free ++ replicate n false) ≡ widest free
widest_behind free n = grind (arith, widest-append, one_kind n false, back-le-widest)

pub widest_before : (n : ℕ) (free : List Bool) → widest (replicate n false ++ free) ≡ widest free
widest_before n free = grind (arith, widest-append, one_kind n false, front-le-widest)

pub lowest_before : (len n : ℕ) (free : List Bool) → 1 ≤ len →
    lowest_fit len (replicate n false ++ free) ≡ n + lowest_fit len free
lowest_before len zero free some = omega arith
lowest_before len (suc n) free some = grind (arith, lowest_before len n free some)

-- Bitmaps.
high_words : ℕ → ℕ → List Bool
high_words bits n = words_from (is_set (bits / 2 ^ n)) 0 (64 - n)

shifted_bit : (bits n word : ℕ) → bit_at (bits / 2 ^ n) word ≡ bit_at bits (n + word)
shifted_bit bits n word = ap (λ q. q % 2) (shr-shr bits n word)

words_split : (bits n : ℕ) → n ≤ 64 → words_of_bits bits ≡ words_from (is_set bits) 0 n ++ high_words bits n
unfolding words_of_bits high_words
words_split bits n within =
    let split = words_from-add (is_set bits) 0 n (64 - n) in
    let whole : n + (64 - n) ≡ 64 = omega arith in
    let rest = same_words_from (is_set bits) (is_set (bits / 2 ^ n)) (0 + n) 0 (64 - n)
    (λ word lt. grind (arith, shifted_bit)) in
    grind arith

words_shifted : (bits n : ℕ) → bits < 2 ^ 64 → n ≤ 64 →
    words_of_bits (bits / 2 ^ n) ≡ high_words bits n ++ replicate n false
unfolding words_of_bits high_words
words_shifted bits n small within =
    let whole : (64 - n) + n ≡ 64 = omega arith in
    let below = shr_below bits (64 - n) n (rw whole small) in
    let split = words_from-add (is_set (bits / 2 ^ n)) 0 (64 - n) n in
    let rest = all_words (is_set (bits / 2 ^ n)) (0 + (64 - n)) n false (λ word lt. grind (arith, bit_at_above)) in
    grind arith

-- the words below the lowest free one are shifted out
pub record Gap (bits : ℕ) : Type 0 where
  pub within : trailing_zeros w64 bits < 64
  pub same_widest : widest (words_of_bits bits) ≡ widest (words_of_bits (bits / 2 ^ trailing_zeros w64 bits))
  pub same_lowest : (len : ℕ) → 1 ≤ len → len ≤ widest (words_of_bits bits) →
      lowest_fit len (words_of_bits bits) ≡
      trailing_zeros w64 bits + lowest_fit len (words_of_bits (bits / 2 ^ trailing_zeros w64 bits))
  pub free : bit_at (bits / 2 ^ trailing_zeros w64 bits) 0 ≡ 1
  pub less : bits / 2 ^ trailing_zeros w64 bits ≤ bits

pub gap : (bits : ℕ) → 0 < bits → bits < 2 ^ 64 → Gap bits
gap bits some small =
    let n = trailing_zeros w64 bits in
    let is = bit_at-trailing_zeros w64 bits some small in
    let front : words_from (is_set bits) 0 n ≡ replicate n false = grind (arith, all_words) in
    let before : words_of_bits bits ≡ replicate n false ++ high_words bits n = grind (arith, words_split) in
    let after = words_shifted bits n small (omega (arith, is.0)) in
    grind (arith, widest_before, widest_behind, lowest_before, lowest-append_left, shifted_bit, shr_le)

-- the free words at the front are shifted out, up to a word that isn't free
pub record Run (bits : ℕ) : Type 0 where
  pub within : trailing_ones w64 bits < 64
  pub front : front_run (words_of_bits bits) ≡ trailing_ones w64 bits
  pub some_taken : all_free (words_of_bits bits) ≡ false
  pub widest_is : widest (words_of_bits bits) ≡
      max (trailing_ones w64 bits) (widest (words_of_bits (bits / 2 ^ trailing_ones w64 bits)))
  pub later : (len : ℕ) → trailing_ones w64 bits < len → len ≤ widest (words_of_bits bits) →
      lowest_fit len (words_of_bits bits) ≡
      trailing_ones w64 bits + lowest_fit len (words_of_bits (bits / 2 ^ trailing_ones w64 bits))
  pub less : bit_at bits 0 ≡ 1 → bits / 2 ^ trailing_ones w64 bits < bits

taken_front : (each : ℕ → Bool) (len : ℕ) → 1 ≤ len → each 0 ≡ false →
    (front_run (words_from each 0 len) ≡ 0) × (all_free (words_from each 0 len) ≡ false)
taken_front each zero some taken = absurd (omega arith)
taken_front each (suc len) some taken = grind arith

pub run : (bits : ℕ) → bits + 1 < 2 ^ 64 → Run bits
unfolding high_words
run bits small =
    let n = trailing_ones w64 bits in
    let is = bit_at-trailing_ones w64 bits small in
    let lowest : words_from (is_set bits) 0 n ≡ replicate n true = grind (arith, all_words) in
    let before : words_of_bits bits ≡ replicate n true ++ high_words bits n = grind (arith, words_split) in
    let after = words_shifted bits n (omega arith) (omega (arith, is.0)) in
    let taken = taken_front (is_set (bits / 2 ^ n)) (64 - n) (omega (arith, is.0)) (grind (arith, shifted_bit)) in
    let front = one_kind n true in
    let len = length-replicate n true in
    let behind = widest_behind (high_words bits n) n in
    grind (arith, front-append, all_free-append, widest-append, lowest-append_right, lowest-append_left)

-- a leaf of which all words are free, or none is
pub summary_all : (n : ℕ) (value : Bool) → 1 ≤ n → summary (replicate n value)
    ≡ cond value (record { front = n; back = n; longest = n; whole = true }) nothing_free
summary_all zero value some = absurd (omega arith)
summary_all (suc n) value some = grind (arith, one_kind (suc n) value)

-- every word is free, or none is
words_of_max : words_of_bits (2 ^ 64 - 1) ≡ replicate 64 true
unfolding words_of_bits
words_of_max = cc

pub of_max : summary (words_of_bits (2 ^ 64 - 1)) ≡ record { front = 64; back = 64; longest = 64; whole = true }
of_max = grind (arith, words_of_max, summary_all)

pub lowest_of_max : (len : ℕ) → len ≤ 64 → lowest_fit len (words_of_bits (2 ^ 64 - 1)) ≡ 0
lowest_of_max len fits = grind (arith, lowest_front, of_max)

words_of_zero : words_of_bits 0 ≡ replicate 64 false
unfolding words_of_bits
words_of_zero = cc

pub summary_of_zero : summary (words_of_bits 0) ≡ nothing_free
summary_of_zero = grind (arith, words_of_zero, summary_all)

-- the free words at the end
back_of_taken : (each : ℕ → Bool) (n : ℕ) → each n ≡ false → back_run (words_from each 0 (n + 1)) ≡ 0
back_of_taken each n taken = grind (arith, words_from-add, back-append)

div_is_one : (a b : ℕ) → b ≤ a → a < 2 * b → a / b ≡ 1
div_is_one a b from to = grind arith

taken_top : (bits n : ℕ) → bits < 2 ^ 64 → n < 64 → 2 ^ n ≤ bit_not w64 bits → bit_not w64 bits < 2 ^ suc n →
    is_set bits n ≡ false
taken_top bits n small within from to =
    let one : bit_not w64 bits / 2 ^ n ≡ 1 = div_is_one (bit_not w64 bits) (2 ^ n) from (omega arith) in
    grind (arith, bit_at_not w64 bits n small within, bit_at-lt bits n)

free_top : (bits n word : ℕ) → bits < 2 ^ 64 → bit_not w64 bits < 2 ^ suc n → n < word → word < 64 →
    is_set bits word ≡ true
free_top bits n word small to above lt =
    let taken = bit_at_above (bit_not w64 bits) (suc n) word to (omega arith) in
    grind (arith, bit_at_not w64 bits word small lt, bit_at-lt bits word)

pub back_is : (bits : ℕ) → bits + 1 < 2 ^ 64 → back_run (words_of_bits bits) ≡ leading_ones w64 bits
unfolding words_of_bits
back_is bits small =
    let top = leading_top 64 (bit_not w64 bits) (omega arith) (omega arith) in
    let n = top.0 in
    let taken = back_of_taken (is_set bits) n (taken_top bits n (omega arith) (omega (arith, top.1)) top.2 top.3) in
    let free : words_from (is_set bits) (0 + (n + 1)) (63 - n) ≡ replicate (63 - n) true =
    grind (arith, all_words, free_top) in
    let split : words_from (is_set bits) 0 64 ≡ words_from (is_set bits) 0 (n + 1) ++ replicate (63 - n) true =
    grind (arith, words_from-add (is_set bits) 0 (n + 1) (63 - n)) in
    let count : leading_ones w64 bits + suc n ≡ 64 = top.1 in
    ap back_run split ∙ grind (arith, back-append, one_kind (63 - n) true)

-- Any bitmap.
pub length-bits : (bits : ℕ) → length (words_of_bits bits) ≡ 64
unfolding words_of_bits
length-bits bits = length-words (is_set bits) 0 64

pub front_of : (bits : ℕ) → bits < 2 ^ 64 → trailing_ones w64 bits ≡ front_run (words_of_bits bits)
unfolding lib.Count.count_trailing_zeros
front_of bits small = elim (cases_eq bits (2 ^ 64 - 1)) [
  | inl all ↦ rw all (sym (ap (λ (s : Summary). s.front) of_max))
  | inr some ↦ sym (run bits (omega arith)).front
]

pub back_of : (bits : ℕ) → bits < 2 ^ 64 → leading_ones w64 bits ≡ back_run (words_of_bits bits)
unfolding count_leading_zeros
back_of bits small = grind (arith, of_max, back_is)

pub all_of : (bits : ℕ) → bits < 2 ^ 64 → eqb bits (2 ^ 64 - 1) ≡ all_free (words_of_bits bits)
all_of bits small = elim (cases_eq bits (2 ^ 64 - 1)) [
  | inl all ↦ grind (arith, eq-eqb, of_max)
  | inr some ↦ ne_eqb bits (2 ^ 64 - 1) some ∙ sym (run bits (omega arith)).some_taken
]

-- the lowest free words are shifted out, with what lies below them
pub record Step (bits ones : ℕ) : Type 0 where
  pub gap_within : trailing_zeros w64 bits < 64
  pub run_within : ones < 64
  pub less : bits / 2 ^ trailing_zeros w64 bits / 2 ^ ones < bits
  pub widest_is : widest (words_of_bits bits) ≡
      max ones (widest (words_of_bits (bits / 2 ^ trailing_zeros w64 bits / 2 ^ ones)))
  pub here : (len : ℕ) → 1 ≤ len → len ≤ ones → lowest_fit len (words_of_bits bits) ≡ trailing_zeros w64 bits
  pub later : (len : ℕ) → ones < len → len ≤ widest (words_of_bits bits) →
      lowest_fit len (words_of_bits bits) ≡ trailing_zeros w64 bits
      + (ones + lowest_fit len (words_of_bits (bits / 2 ^ trailing_zeros w64 bits / 2 ^ ones)))

pub step : (bits ones : ℕ) → 0 < bits → bits + 1 < 2 ^ 64 →
    ones ≡ trailing_ones w64 (bits / 2 ^ trailing_zeros w64 bits) → Step bits ones
step bits ones some small is = grind (arith, gap, run, lowest_front)

pub gap_within : (bits : ℕ) → 0 < bits → bits < 2 ^ 64 → trailing_zeros w64 bits < 64
gap_within bits some small = (gap bits some small).within

-- The lowest free word.
pub free_front : (bits : ℕ) → bit_at bits 0 ≡ 1 → 1 ≤ front_run (words_of_bits bits)
unfolding words_of_bits
free_front bits free = grind arith

-- the words before the lowest free one
pub none_before_lowest : (bits word : ℕ) → bits < 2 ^ 64 → word < trailing_zeros w64 bits → is_set bits word ≡ false
none_before_lowest bits word small lt = grind (arith, bit_at-trailing_zeros w64 bits, bit_at-zero)

-- the lowest free word of a bitmap, or its end
pub trailing_most : (bits : ℕ) → bits < 2 ^ 64 → trailing_zeros w64 bits ≤ 64
unfolding lib.Count.count_trailing_zeros
trailing_most bits small = search (rules, gap_within)

-- the words after the first are those of the half
half_words : (bits len : ℕ) → words_from (is_set bits) (0 + 1) len ≡ words_from (is_set (bits / 2)) 0 len
half_words bits len =
    same_words_from (is_set bits) (is_set (bits / 2)) (0 + 1) 0 len (λ word lt. grind (arith, bit_at-suc bits))

few_set : (len bits : ℕ) → widest (words_from (is_set bits) 0 len) ≤ ones bits
few_set zero bits = omega arith
few_set (suc len) bits =
    grind (arith, half_words, few_set len (bits / 2), ones_step bits, bit_at_lowest bits, eqb-true, front-le-widest)

-- a hole has no more words than bits are set
pub widest_few : (bits : ℕ) → widest (words_of_bits bits) ≤ ones bits
unfolding words_of_bits
widest_few bits = few_set 64 bits

-- what the loops over the runs of a bitmap need
pub ruleset whole = (of_max, lowest_of_max, summary_of_zero, step, gap_within, lowest_within, length-bits)

-- where the lowest free word of a bitmap is
pub ruleset lowest_bits = (none_before_lowest, trailing_most)
