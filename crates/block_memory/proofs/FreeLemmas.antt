-- Lemmas on the free words of a region.
use Rattle.std.proofs.Common.{◌≡◌, ◌⊎◌, ℕ, zero, suc, ◌+◌, ◌-◌, ◌<◌, ◌≤◌, Bool, true, false, List, ◌++◌, length, take}
use Rattle.std.proofs.Common.{replicate, refl, arith, length-append}
use Rattle.std.proofs.lemmas.List.{append-nil, take-append-drop, get_or_append_left, get_or-append_right, get_or-take}
use Rattle.std.proofs.lemmas.List.{get_or-drop, get_or-replicate, length-take-le, length-drop, length-replicate}
use Rattle.std.proofs.lemmas.List.Sums.{count_by-le-length}
use Rattle.holes.specs.Laws.{NoMoreHolesThanWords}
use Rattle.holes.specs.FreeWords.{is_free, set_range, free_from, hole_count, hole_count_after, front_run, widest}

-- the words before a range and those of the range
length-front : (free : List Bool) (place len : ℕ) (value : Bool) → place + len ≤ length free
    → length (take place free ++ replicate len value) ≡ place + len
length-front free place len value fits = grind (arith, length-take-le, length-replicate, length-append)

pub length-set_range : (free : List Bool) (place len : ℕ) (value : Bool) → place + len ≤ length free
    → length (set_range free place len value) ≡ length free
length-set_range free place len value fits = grind (arith, length-front, length-drop, length-append)

-- a range that was set, and the words before and after it
pub is_free-set_inside : (free : List Bool) (place len word : ℕ) (value : Bool) → place + len ≤ length free
    → place ≤ word → word < place + len → is_free (set_range free place len value) word ≡ value
is_free-set_inside free place len word value fits from below =
    grind (arith, length-front, get_or_append_left, get_or-append_right, length-take-le, get_or-replicate)

pub is_free-set_before : (free : List Bool) (place len word : ℕ) (value : Bool) → place + len ≤ length free
    → word < place → is_free (set_range free place len value) word ≡ is_free free word
is_free-set_before free place len word value fits before =
    grind (arith, length-front, length-take-le, get_or_append_left, get_or-take)

pub is_free-set_behind : (free : List Bool) (place len word : ℕ) (value : Bool) → place + len ≤ length free
    → place + len ≤ word → is_free (set_range free place len value) word ≡ is_free free word
is_free-set_behind free place len word value fits behind = grind (arith, length-front, get_or-append_right, get_or-drop)

-- a word is in a range or outside
pub in_or_out : (place len word : ℕ) → ((place ≤ word) × (word < place + len)) ⊎ (place ≤ word → word < place + len → ⊥)
in_or_out place len word = grind arith

-- a word outside a range stays as it was
pub is_free-outside : (free : List Bool) (place len word : ℕ) (value : Bool) → place + len ≤ length free
    → (place ≤ word → word < place + len → ⊥) → is_free (set_range free place len value) word ≡ is_free free word
is_free-outside free place len word value fits outside = grind (arith, is_free-set_before, is_free-set_behind)

-- a word that has the value that a range gets keeps it
pub is_free-still : (free : List Bool) (place len word : ℕ) (value : Bool) → place + len ≤ length free
    → is_free free word ≡ value → is_free (set_range free place len value) word ≡ value
is_free-still free place len word value fits h = grind (arith, in_or_out, is_free-set_inside, is_free-outside)

-- words that are alike stay so
pub is_free-set_alike : (xs ys : List Bool) (place len word : ℕ) (value : Bool) → place + len ≤ length xs
    → place + len ≤ length ys → is_free xs word ≡ is_free ys word
    → is_free (set_range xs place len value) word ≡ is_free (set_range ys place len value) word
is_free-set_alike xs ys place len word value fx fy same = grind (arith, in_or_out, is_free-set_inside, is_free-outside)

-- there is room for one more hole
pub has_room : NoMoreHolesThanWords → (free : List Bool) (most : ℕ) → length free < most → hole_count free < most
has_room law free most room = omega (arith, count_by-le-length)

-- an empty range
pub set_range-nothing : (free : List Bool) (place : ℕ) (value : Bool) → set_range free place 0 value ≡ free
set_range-nothing free place value = grind (arith, append-nil, take-append-drop)

-- the words from a place on
pub length-free_from : (place size : ℕ) → place ≤ size → length (free_from place size) ≡ size
length-free_from place size within = grind (arith, length-replicate, length-append)

pub is_free-from_before : (place size word : ℕ) → word < place → is_free (free_from place size) word ≡ false
is_free-from_before place size word before = grind (arith, length-replicate, get_or_append_left, get_or-replicate)

pub is_free-from_behind : (place size word : ℕ) → place ≤ word → word < size
    → is_free (free_from place size) word ≡ true
is_free-from_behind place size word from below = grind (arith, get_or-append_right, length-replicate, get_or-replicate)

front_run-all : (n : ℕ) → front_run (replicate n true) ≡ n
front_run-all zero = refl
front_run-all (suc n) = omega (arith, front_run-all n)

widest-all : (n : ℕ) → n ≤ widest (replicate n true)
widest-all zero = omega arith
widest-all (suc n) = grind (arith, front_run-all)

-- a row of free words is part of a hole of at least as many words
pub widest-free_from : (place size : ℕ) → size - place ≤ widest (free_from place size)
widest-free_from place size = behind place (size - place)
  where
    behind : (a n : ℕ) → n ≤ widest (replicate a false ++ replicate n true)
    behind zero n = widest-all n
    behind (suc a) n = let rest = behind a n in omega arith

-- there is one hole at most
pub hole_count-free_from : (place size : ℕ) → hole_count (free_from place size) ≤ 1
hole_count-free_from place size = behind place (size - place)
  where
    inside : (n : ℕ) → hole_count_after true (replicate n true) ≡ 0
    inside zero = refl
    inside (suc n) = inside n

    behind : (a n : ℕ) → hole_count_after false (replicate a false ++ replicate n true) ≤ 1
    behind zero zero = omega arith
    behind zero (suc n) = let none = inside n in omega arith
    behind (suc a) n = behind a n
