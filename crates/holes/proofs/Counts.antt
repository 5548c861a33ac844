-- How many holes there are after a range was taken or given, by the words right before and right after it.
use Rattle.std.proofs.Common.{◌≡◌, ℕ, ◌+◌, ◌-◌, ◌<◌, ◌≤◌, Bool, true, false, not, ◌&&◌, cond, eqb, List, [], ◌∷◌, ◌++◌}
use Rattle.std.proofs.Common.{length, take, refl, arith, zero, suc}
use Rattle.std.specs.Prelude.{replicate}
use Rattle.std.proofs.lemmas.List.{get_or-drop}
use Rattle.std.specs.Int.{from_bool}
use Rattle.holes.specs.Tree.{words_from}
use Rattle.holes.proofs.Bits.{words_from-add}
use Rattle.holes.specs.FreeWords.{is_free, set_range, free_from, hole_count_after, hole_count}
use Rattle.holes.proofs.Ranges.{last_of, hole_count_after-append, hole_count_after-false, hole_count_after_true-true}

count_behind : (free : List Bool) →
    hole_count_after false free ≡ hole_count_after true free + cond (is_free free 0) 1 0
count_behind [] = refl
count_behind (word ∷ free) = grind arith

last_same : (before value : Bool) (n : ℕ) → last_of before (replicate (suc n) value) ≡ value
last_same before value zero = refl
last_same before value (suc n) = last_same value value n

pub last_taken : (before : Bool) (free : List Bool) (place : ℕ) → place < length free →
    last_of before (take (suc place) free) ≡ is_free free place
last_taken before [] place lt = absurd (omega arith)
last_taken before (word ∷ free) zero lt = refl
last_taken before (word ∷ free) (suc place) lt = last_taken word free place (omega arith)

last-append : (before : Bool) (xs ys : List Bool) → last_of before (xs ++ ys) ≡ last_of (last_of before xs) ys
last-append before [] ys = refl
last-append before (word ∷ xs) ys = last-append word xs ys

-- of a range that is free, and of another
pub hole_count_changed : (free : List Bool) (place len : ℕ) → 1 ≤ len →
    hole_count (set_range free place len true) + cond (is_free free (place + len)) 1 0
    ≡ hole_count (set_range free place len false) + cond (last_of false (take place free)) 0 1
hole_count_changed free place zero some = absurd (omega arith)
hole_count_changed free place (suc len) some =
    grind (
      arith,
      get_or-drop,
      last-append,
      last_same,
      hole_count_after-append,
      hole_count_after_true-true,
      hole_count_after-false,
      count_behind,
    )

last_none : (place : ℕ) → last_of false (replicate place false) ≡ false
last_none zero = refl
last_none (suc place) = last_none place

count_some : (n : ℕ) → hole_count_after false (replicate n true) ≡ cond (eqb n 0) 0 1
count_some zero = refl
count_some (suc n) = grind (arith, hole_count_after_true-true)

pub hole_count_from : (place size : ℕ) → hole_count (free_from place size) ≡ cond (eqb (size - place) 0) 0 1
hole_count_from place size = grind (arith, hole_count_after-append, hole_count_after-false, last_none, count_some)

-- One word more.
pub next_word : (each : ℕ → Bool) (n : ℕ) → words_from each 0 (n + 1) ≡ words_from each 0 n ++ each n ∷ []
next_word each n = grind (arith, words_from-add)

pub count_next : (each : ℕ → Bool) (n : ℕ) → hole_count (words_from each 0 (n + 1))
    ≡ hole_count (words_from each 0 n) + from_bool (each n && not (last_of false (words_from each 0 n)))
count_next each n = grind (arith, next_word, hole_count_after-append)

pub last_next : (each : ℕ → Bool) (n : ℕ) → last_of false (words_from each 0 (n + 1)) ≡ each n
last_next each n = grind (arith, next_word, last-append)

pub at_most_one : (b : Bool) → from_bool b ≤ 1
at_most_one b = grind arith

-- one step of counting the holes
pub ruleset counts = (count_next, last_next, at_most_one)
