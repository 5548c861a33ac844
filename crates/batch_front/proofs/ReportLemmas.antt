-- The words of a vector, one by one.
use Rattle.std.proofs.Common.{◌≡◌, ℕ, ◌+◌, ◌≤◌, ℤ, List, [], ◌∷◌, ◌++◌, length, take, drop, map, ap, sym}
use Rattle.std.proofs.Common.{arith}
use Rattle.std.specs.List.{flat_map, join_with_byte}
use Rattle.std.proofs.lemmas.Grind.{flat_map-append}
use Rattle.std.proofs.lemmas.List.{append-nil, length-take, take-append-drop, take-take, take_min, drop-take}
use Rattle.std.proofs.lemmas.List.{drop-append-le, length-drop}
use Rattle.vcode_base.specs.declared.kind.Kind.{Kind}
use Rattle.batch_front.specs.Reports.{next_word_text, word_text}

-- pieces with a byte between each two: the first, and each other after that byte
joined_by : (c : ℕ) (f : ℤ → List ℕ) (x : ℤ) (xs : List ℤ)
    → join_with_byte c (map f (x ∷ xs)) ≡ f x ++ flat_map (λ y. c ∷ f y) xs
joined_by c f x [] = sym (append-nil (f x))
joined_by c f x (y ∷ ys) = ap (λ t. f x ++ (c ∷ t)) (joined_by c f y ys)

-- the words of a vector
pub words_joined : (kind : Kind) (words others : List ℤ) (first : ℤ) → words ≡ first ∷ others
    → word_text kind first ++ flat_map (next_word_text kind) others ≡ join_with_byte 32 (map (word_text kind) words)
words_joined kind words others first whole = grind (arith, joined_by 32 (word_text kind) first others)

-- a front, and as many more
take_two : (d n : ℕ) (ws : List ℤ) → take (d + n) ws ≡ take d ws ++ take n (drop d ws)
take_two d n ws = grind (arith, take-append-drop d (take (d + n) ws), take-take d (d + n) ws, drop-take d n ws)

pub more_within : (ws more : List ℤ) (d m : ℕ) → d ≤ length ws → more ≡ take m (drop d ws)
    → d + length more ≤ length ws
more_within ws more d m within is = grind (arith, length-take, length-drop)

-- some more words, after others than the first
pub more_words : (f : ℤ → List ℕ) (ws more : List ℤ) (d m : ℕ) → 1 ≤ d → d ≤ length ws → more ≡ take m (drop d ws)
    → flat_map f (drop 1 (take d ws)) ++ flat_map f more ≡ flat_map f (drop 1 (take (d + length more) ws))
more_words f ws more d m first within is =
    grind (arith, length-take, take_min, flat_map, flat_map-append, drop-append-le, take_two)
