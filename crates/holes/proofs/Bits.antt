-- The words that bits tell, and the bits of a bitmap after its operations.
use Rattle.std.proofs.Common.{◌≡◌, ℕ, ◌+◌, ◌-◌, ◌*◌, ◌/◌, ◌%◌, ◌^◌, ◌<◌, ◌≤◌, Bool, true, false, ◌++◌, length}
use Rattle.std.proofs.Common.{refl, sym, ◌⊎◌, ◌∙◌, arith, zero, suc}
use Rattle.std.specs.Prelude.{replicate, bit_and, bit_or}
use Rattle.std.specs.Int.{bit_at, bit_not, w64}
use Rattle.std.proofs.lemmas.List.{length-replicate, get_or-replicate, ext_get_or}
use Rattle.std.proofs.lemmas.Nat.Bits.{bit_at_and, bit_at_or, bit_at_ones, bit_at_ones_above, bit_at_mask_inside}
use Rattle.std.proofs.lemmas.Nat.Bits.{bit_at_mask_below, ones_shl, ones_shr, bit_at_not, bit_at-lt}
use Rattle.std.proofs.lemmas.Nat.{and_le_r, shr_le}
use Rattle.holes.specs.FreeWords.{is_free}
use Rattle.holes.specs.Tree.{is_set, words_from}

pub length-words : (each : ℕ → Bool) (place len : ℕ) → length (words_from each place len) ≡ len
length-words each place zero = refl
length-words each place (suc len) = omega (arith, length-words each (place + 1) len)

pub word_in : (each : ℕ → Bool) (place len word : ℕ) → word < len →
    is_free (words_from each place len) word ≡ each (place + word)
word_in each place zero word lt = absurd (omega arith)
word_in each place (suc len) zero lt = grind arith
word_in each place (suc len) (suc word) lt = grind (arith, word_in each (place + 1) len word (omega arith))

-- the same words, by two functions that say which are free
pub same_words_from : (first second : ℕ → Bool) (a b len : ℕ) →
    ((word : ℕ) → word < len → first (a + word) ≡ second (b + word)) →
    words_from first a len ≡ words_from second b len
same_words_from first second a b len same = grind (arith, ext_get_or false, length-words, word_in)

pub words_from-add : (each : ℕ → Bool) (place m n : ℕ) →
    words_from each place (m + n) ≡ words_from each place m ++ words_from each (place + m) n
words_from-add each place zero n = grind arith
words_from-add each place (suc m) n =
    let a : suc m + n ≡ suc (m + n) = omega arith in
    let b : (place + 1) + m ≡ place + suc m = omega arith in
    cc (words_from-add each (place + 1) m n)

pub all_words : (each : ℕ → Bool) (place len : ℕ) (value : Bool) →
    ((word : ℕ) → word < len → each (place + word) ≡ value) → words_from each place len ≡ replicate len value
all_words each place len value all =
    ext_get_or false (words_from each place len) (replicate len value)
    (length-words each place len ∙ sym (length-replicate len value))
    (λ word lt. let within : word < len = omega (arith, length-words each place len) in
    word_in each place len word within ∙ (all word within ∙ sym (get_or-replicate len word value false within)))

-- Masks.
abbrev pub mask : ℕ → ℕ → ℕ
mask from to = bit_and ((2 ^ 64 - 1) * 2 ^ from % 2 ^ 64) ((2 ^ 64 - 1) / 2 ^ (64 - to))

mask_inside : (from to word : ℕ) → from < to → to ≤ 64 → from ≤ word → word < to → bit_at (mask from to) word ≡ 1
mask_inside from to word some within ge lt =
    grind (
      arith,
      bit_at_and ((2 ^ 64 - 1) * 2 ^ from % 2 ^ 64) ((2 ^ 64 - 1) / 2 ^ (64 - to)) word,
      ones_shl 64 from (omega arith),
      ones_shr 64 (64 - to) (omega arith),
      bit_at_mask_inside from 64 word ge (omega arith),
      bit_at_ones to word lt,
    )

mask_outside : (from to word : ℕ) → from < to → to ≤ 64 → (word < from) ⊎ (to ≤ word) → bit_at (mask from to) word ≡ 0
mask_outside from to word some within out =
    let both = bit_at_and ((2 ^ 64 - 1) * 2 ^ from % 2 ^ 64) ((2 ^ 64 - 1) / 2 ^ (64 - to)) word in
    let high = ones_shl 64 from (omega arith) in
    let low = rw (let e : 64 - (64 - to) ≡ to = omega arith in e) at (ones_shr 64 (64 - to) (omega arith)) in
    grind (arith, bit_at_mask_below from 64 word, bit_at_ones_above to word)

mask-lt : (from to : ℕ) → mask from to < 2 ^ 64
mask-lt from to = omega (arith, and_le_r, shr_le)

pub or_mask_inside : (bits from to word : ℕ) → from < to → to ≤ 64 → from ≤ word → word < to →
    is_set (bit_or bits (mask from to)) word ≡ true
or_mask_inside bits from to word some within ge lt = grind (arith, mask, bit_at_or, mask_inside, bit_at-lt)

pub or_mask_outside : (bits from to word : ℕ) → from < to → to ≤ 64 → (word < from) ⊎ (to ≤ word) →
    is_set (bit_or bits (mask from to)) word ≡ is_set bits word
or_mask_outside bits from to word some within out = grind (arith, mask, bit_at_or, mask_outside)

pub and_mask_inside : (bits from to word : ℕ) → from < to → to ≤ 64 → from ≤ word → word < to →
    is_set (bit_and bits (bit_not w64 (mask from to))) word ≡ false
and_mask_inside bits from to word some within ge lt =
    grind (arith, mask, bit_at_and, bit_at_not w64 (mask from to), mask-lt, mask_inside)

pub and_mask_outside : (bits from to word : ℕ) → from < to → to ≤ 64 → word < 64 → (word < from) ⊎ (to ≤ word) →
    is_set (bit_and bits (bit_not w64 (mask from to))) word ≡ is_set bits word
and_mask_outside bits from to word some within lt out =
    grind (arith, mask, bit_at_and, bit_at_not w64 (mask from to), mask-lt, mask_outside, bit_at-lt)

-- a bitmap with a range free or not free
pub ruleset masks = (or_mask_inside, or_mask_outside, and_mask_inside, and_mask_outside)

-- for functions, whose attributes name no lemma with a dash
pub ruleset lengths = (length-words)
