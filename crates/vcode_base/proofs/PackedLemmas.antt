-- Words in fewer bytes, and back.
use Rattle.std.proofs.Common.{◌≡◌, ℕ, zero, suc, ◌<◌, ℤ, pos, min, List, [], ◌∷◌, length}
use Rattle.std.proofs.Common.{map, take, drop, get_or, refl, ap, sym, arith}
use Rattle.std.specs.List.{All}
use Rattle.std.proofs.lemmas.Grind.{common_steps}
use Rattle.std.proofs.lemmas.Int.{ints}
use Rattle.std.proofs.lemmas.List.{ext_get_or}
use Rattle.std.proofs.lemmas.List.Elements.{All-head, All-tail}
use Rattle.std.proofs.lemmas.Nat.{le_or_l, le_or_r}
use Rattle.vcode_base.specs.PackedWords.{high_of, low_of, magnitude, three_byte_word, three_byte_words, IsBelow}

pub words_long : (hs ls : List ℕ) → length (three_byte_words hs ls) ≡ min (length hs) (length ls)
words_long [] ls = omega arith
words_long (h ∷ hs) [] = omega arith
words_long (h ∷ hs) (l ∷ ls) = grind (arith, words_long hs ls)

pub word_at : (hs ls : List ℕ) (k : ℕ) → k < length hs → k < length ls
    → get_or (three_byte_words hs ls) k (pos 0) ≡ three_byte_word (get_or hs k 0) (get_or ls k 0)
word_at [] ls k h l = absurd (omega arith)
word_at (x ∷ hs) [] k h l = absurd (omega arith)
word_at (x ∷ hs) (y ∷ ls) zero h l = refl
word_at (x ∷ hs) (y ∷ ls) (suc k) h l = word_at hs ls k (omega arith) (omega arith)

-- ---- a part of the words is made of the same parts of the lists

no_lows : (hs : List ℕ) → three_byte_words hs [] ≡ []
no_lows [] = refl
no_lows (h ∷ hs) = refl

last_words : (i : ℕ) (hs ls : List ℕ) → drop i (three_byte_words hs ls) ≡ three_byte_words (drop i hs) (drop i ls)
last_words zero hs ls = refl
last_words (suc i) [] ls = refl
last_words (suc i) (h ∷ hs) [] = sym (no_lows (drop i hs))
last_words (suc i) (h ∷ hs) (l ∷ ls) = last_words i hs ls

first_words : (n : ℕ) (hs ls : List ℕ) → take n (three_byte_words hs ls) ≡ three_byte_words (take n hs) (take n ls)
first_words zero hs ls = refl
first_words (suc n) [] ls = refl
first_words (suc n) (h ∷ hs) [] = refl
first_words (suc n) (h ∷ hs) (l ∷ ls) = ap (λ ws. three_byte_word h l ∷ ws) (first_words n hs ls)

pub part_of_words : (n i : ℕ) (hs ls : List ℕ)
    → three_byte_words (take n (drop i hs)) (take n (drop i ls)) ≡ take n (drop i (three_byte_words hs ls))
part_of_words n i hs ls = grind (arith, last_words, first_words)

-- ---- a word is that of its parts

one_word : (w : ℤ) → magnitude w < 8388608 → three_byte_word (high_of w) (low_of w) ≡ w
one_word w h = grind (arith, ints)

pub words_are : (ws : List ℤ) → All (IsBelow 8388608) ws → three_byte_words (map high_of ws) (map low_of ws) ≡ ws
words_are [] all = refl
words_are (w ∷ ws) all =
    grind (
      arith,
      one_word w (All-head (IsBelow 8388608) w ws all),
      words_are ws (All-tail (IsBelow 8388608) w ws all),
    )

-- words that were made one after another
pub words_made : (out : List ℤ) (hs ls : List ℕ) → length out ≡ length hs → length out ≡ length ls
    → ((k : ℕ) → k < length out → get_or out k (pos 0) ≡ three_byte_word (get_or hs k 0) (get_or ls k 0))
    → out ≡ three_byte_words hs ls
words_made out hs ls high low each =
    ext_get_or (pos 0) out (three_byte_words hs ls) (grind (arith, words_long))
    (λ k h. grind (arith, each k h, word_at hs ls k))

pub ruleset packed_steps = (common_steps, words_long, part_of_words)

pub ruleset bound_steps = (common_steps, le_or_l, le_or_r)
