-- What follows from which words of a region are free: ranges set, counts of words and of holes, the widest hole.
use Rattle.std.proofs.Common.{◌≡◌, ℕ, ◌+◌, ◌-◌, ◌<◌, ◌≤◌, Bool, true, false, cond, List, [], ◌∷◌, ◌++◌, length, take}
use Rattle.std.proofs.Common.{drop, refl, arith, zero, suc}
use Rattle.std.specs.Prelude.{replicate}
use Rattle.std.proofs.lemmas.List.{length-append, length-replicate, get_or-replicate, get_or_append_left}
use Rattle.std.proofs.lemmas.List.{get_or-append_right, drop-drop, take-append-drop, ext_get_or}
use Rattle.std.proofs.lemmas.Grind.{common_steps, elements}
use Rattle.std.proofs.lemmas.List.Sums.{sum_by-append, sum_by-cons, count_by-le-length}
use Rattle.holes.specs.FreeWords.{is_free, AllFree, NoneFree, set_range, free_from, free_count, hole_count_after}
use Rattle.holes.specs.FreeWords.{hole_count, front_run, widest, Range, free_beside}

-- A range that is set.
pub length-set_range : (free : List Bool) (place len : ℕ) (value : Bool) → place + len ≤ length free →
    length (set_range free place len value) ≡ length free
length-set_range free place len value within = grind (arith, common_steps)

-- a word of the range
pub set_range_inside : (free : List Bool) (place len : ℕ) (value : Bool) (word : ℕ) → place ≤ length free →
    place ≤ word → word < place + len → is_free (set_range free place len value) word ≡ value
set_range_inside free place len value word within from to = grind (arith, elements)

-- a word before the range
pub set_range_before : (free : List Bool) (place len : ℕ) (value : Bool) (word : ℕ) → place ≤ length free →
    word < place → is_free (set_range free place len value) word ≡ is_free free word
set_range_before free place len value word within lt = grind (arith, elements)

-- a word after the range
pub set_range_behind : (free : List Bool) (place len : ℕ) (value : Bool) (word : ℕ) → place ≤ length free →
    place + len ≤ word → is_free (set_range free place len value) word ≡ is_free free word
set_range_behind free place len value word within ge = grind (arith, elements)

-- each word of a list with a range set
pub ruleset set_ranges = (length-set_range, set_range_before, set_range_inside, set_range_behind)

-- two regions with the same free words
pub same_words : (xs ys : List Bool) → length xs ≡ length ys →
    ((word : ℕ) → word < length xs → is_free xs word ≡ is_free ys word) → xs ≡ ys
same_words xs ys len each = ext_get_or false xs ys len each

-- a range that has the value already
pub set_range_same : (free : List Bool) (place len : ℕ) (value : Bool) → place + len ≤ length free →
    ((word : ℕ) → place ≤ word → word < place + len → is_free free word ≡ value) →
    set_range free place len value ≡ free
set_range_same free place len value within has = grind (arith, same_words, set_ranges)

-- How many words are free.
pub free_count-append : (xs ys : List Bool) → free_count (xs ++ ys) ≡ free_count xs + free_count ys
free_count-append xs ys = sum_by-append _ xs ys

free_count-cons : (word : Bool) (free : List Bool) → free_count (word ∷ free) ≡ cond word 1 0 + free_count free
free_count-cons true free = omega (arith, sum_by-cons)
free_count-cons false free = omega (arith, sum_by-cons)

pub free_count-true : (n : ℕ) → free_count (replicate n true) ≡ n
free_count-true zero = refl
free_count-true (suc n) = omega (arith, free_count-cons, free_count-true n)

pub free_count-false : (n : ℕ) → free_count (replicate n false) ≡ 0
free_count-false zero = refl
free_count-false (suc n) = omega (arith, free_count-cons, free_count-false n)

pub free_count-le-length : (free : List Bool) → free_count free ≤ length free
free_count-le-length free = count_by-le-length _ free

free_count-set_range : (free : List Bool) (place len : ℕ) (value : Bool) → free_count (set_range free place len value)
    ≡ free_count (take place free) + free_count (replicate len value) + free_count (drop (place + len) free)
free_count-set_range free place len value = omega (arith, free_count-append)

free_count_both : (free : List Bool) (place len : ℕ) →
    free_count (set_range free place len true) ≡ free_count (set_range free place len false) + len
free_count_both free place len = omega (arith, free_count-set_range, free_count-true, free_count-false)

-- after free words are taken
pub free_count_taken : (free : List Bool) (place len : ℕ) → place + len ≤ length free → AllFree free place len →
    free_count free ≡ free_count (set_range free place len false) + len
free_count_taken free place len within all =
    cc (set_range_same free place len true within all, free_count_both free place len)

-- after words are given back that were not free
pub free_count_given : (free : List Bool) (place len : ℕ) → place + len ≤ length free → NoneFree free place len →
    free_count (set_range free place len true) ≡ free_count free + len
free_count_given free place len within none = grind (arith, free_count_both, set_range_same)

pub free_count-free_from : (place size : ℕ) → free_count (free_from place size) ≡ size - place
free_count-free_from place size = omega (arith, free_count-append, free_count-false, free_count-true)

pub length-free_from : (place size : ℕ) → place ≤ size → length (free_from place size) ≡ size
length-free_from place size within = grind (arith, length-append, length-replicate)

pub free_from_below : (place size word : ℕ) → word < place → is_free (free_from place size) word ≡ false
free_from_below place size word lt = grind (arith, get_or_append_left, length-replicate, get_or-replicate)

pub free_from_above : (place size word : ℕ) → place ≤ word → word < size → is_free (free_from place size) word ≡ true
free_from_above place size word ge lt = grind (arith, get_or-append_right, length-replicate, get_or-replicate)

-- How many holes there are.

-- the last word, or the one before the words if there is none
abbrev pub last_of : Bool → List Bool → Bool
last_of before [] = before
last_of before (word ∷ free) = last_of word free

pub hole_count_after-append : (before : Bool) (xs ys : List Bool) →
    hole_count_after before (xs ++ ys) ≡ hole_count_after before xs + hole_count_after (last_of before xs) ys
hole_count_after-append before [] ys = omega arith
hole_count_after-append before (word ∷ xs) ys =
    grind (arith, hole_count_after-append true xs ys, hole_count_after-append false xs ys)

pub hole_count_after-false : (before : Bool) (n : ℕ) → hole_count_after before (replicate n false) ≡ 0
hole_count_after-false before zero = refl
hole_count_after-false before (suc n) = hole_count_after-false false n

pub hole_count_after_true-true : (n : ℕ) → hole_count_after true (replicate n true) ≡ 0
hole_count_after_true-true zero = refl
hole_count_after_true-true (suc n) = hole_count_after_true-true n

-- a free word before the words takes at most one hole's front away
hole_count_after-le : (first second : Bool) (free : List Bool) →
    hole_count_after first free ≤ hole_count_after second free + 1
hole_count_after-le first second [] = omega arith
hole_count_after-le first second (word ∷ free) = grind arith

-- a range that is taken makes at most one hole more
pub hole_count_taken : (free : List Bool) (place len : ℕ) →
    hole_count (set_range free place len false) ≤ hole_count free + 1
hole_count_taken free place len =
    let middle = drop-drop len place free in
    let front = take-append-drop place free in
    let back = take-append-drop len (drop place free) in
    grind (arith, hole_count_after-append, hole_count_after-false, hole_count_after-le)

pub hole_count-true : (n : ℕ) → hole_count (replicate n true) ≤ 1
hole_count-true zero = omega arith
hole_count-true (suc n) = grind (arith, hole_count_after_true-true)

-- beside some ranges there is at most one hole more than there are ranges
pub few_beside : (size : ℕ) (ranges : List Range) →
    hole_count (free_beside size ranges) ≤ length ranges + 1
few_beside size [] = hole_count-true size
few_beside size (range ∷ ranges) = omega (arith, hole_count_taken, few_beside size ranges)

-- The widest hole.
widest-le-free_count : (free : List Bool) → (widest free ≤ free_count free) × (front_run free ≤ free_count free)
widest-le-free_count [] = grind arith
widest-le-free_count (word ∷ free) = grind (arith, free_count-cons word free, widest-le-free_count free)

no_hole : (free : List Bool) → hole_count_after false free ≡ 0 → free_count free ≡ 0
no_hole [] e = refl
no_hole (word ∷ free) e = grind (arith, free_count-cons word free, no_hole free)

front_alone : (free : List Bool) → hole_count_after true free ≡ 0 → front_run free ≡ free_count free
front_alone [] e = refl
front_alone (word ∷ free) e = grind (arith, free_count-cons word free, no_hole free, front_alone free)

-- the only hole has all free words
pub widest_alone : (free : List Bool) → hole_count free ≤ 1 → widest free ≡ free_count free
widest_alone [] few = refl
widest_alone (word ∷ free) few =
    grind (arith, free_count-cons word free, front_alone free, widest-le-free_count free, widest_alone free)

-- each hole has a free word
holes_within : (free : List Bool) (before : Bool) → hole_count_after before free ≤ free_count free
holes_within [] before = omega arith
holes_within (word ∷ free) before =
    grind (arith, free_count-cons word free, holes_within free true, holes_within free false)

pub few_holes : (free : List Bool) → hole_count free ≤ free_count free
few_holes free = holes_within free false
