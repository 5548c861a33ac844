-- The free words at the front and at the end of some words, the widest hole and the lowest fit, also of words that
-- lie before others.
use Rattle.std.proofs.Common.{◌≡◌, ℕ, ◌+◌, ◌-◌, ◌<◌, ◌≤◌, ◌^◌, max, Bool, true, false, ◌&&◌, cond, List, [], ◌∷◌, ◌++◌}
use Rattle.std.proofs.Common.{length, drop, refl, arith, zero, suc}
use Rattle.std.specs.Prelude.{nat_eq}
use mathlib.Core.Bool.{beq}
use Rattle.std.proofs.lemmas.List.{length-append, get_or-drop}
use Rattle.holes.specs.declared.summary.Summary.{Summary}
use Rattle.holes.specs.FreeWords.{is_free, AllFree, IsLowestFit, front_run, lowest_free, widest}
use Rattle.holes.specs.Tree.{all_free, back_run, lowest_fit, summary, join}

pub front-le-length : (free : List Bool) → front_run free ≤ length free
front-le-length [] = omega arith
front-le-length (false ∷ free) = omega arith
front-le-length (true ∷ free) = omega (arith, front-le-length free)

pub front-le-widest : (free : List Bool) → front_run free ≤ widest free
front-le-widest [] = omega arith
front-le-widest (word ∷ free) = omega arith

pub widest-le-length : (free : List Bool) → widest free ≤ length free
widest-le-length [] = omega arith
widest-le-length (word ∷ free) = omega (arith, front-le-length, widest-le-length free)

pub front_all : (free : List Bool) → all_free free ≡ true → front_run free ≡ length free
front_all [] all = refl
front_all (word ∷ free) all = grind (arith, front_all free)

pub back-le-length : (free : List Bool) → back_run free ≤ length free
back-le-length [] = omega arith
back-le-length (word ∷ free) = grind (arith, back-le-length free)

pub back_all : (free : List Bool) → all_free free ≡ true → back_run free ≡ length free
back_all [] all = refl
back_all (word ∷ free) all = grind arith

-- Words and those after them.
pub all_free-append : (xs ys : List Bool) → all_free (xs ++ ys) ≡ cond (all_free xs) (all_free ys) false
all_free-append [] ys = refl
all_free-append (false ∷ xs) ys = refl
all_free-append (true ∷ xs) ys = all_free-append xs ys

pub front-append : (xs ys : List Bool) →
    front_run (xs ++ ys) ≡ cond (all_free xs) (front_run xs + front_run ys) (front_run xs)
front-append [] ys = omega arith
front-append (word ∷ xs) ys = grind (arith, front-append xs ys)

pub back-append : (xs ys : List Bool) →
    back_run (xs ++ ys) ≡ cond (all_free ys) (back_run ys + back_run xs) (back_run ys)
back-append [] ys = grind arith
back-append (word ∷ xs) ys = grind (arith, length-append, all_free-append, back_all, back-append xs ys)

pub widest-append : (xs ys : List Bool) →
    widest (xs ++ ys) ≡ max (max (widest xs) (widest ys)) (back_run xs + front_run ys)
widest-append [] ys = omega (arith, front-le-widest ys)
widest-append (word ∷ xs) ys = grind (arith, front_all, back_all, front-append, widest-append xs ys)

-- when the derived `==` is true
pub equal_summaries : (a b : Summary) → (nat_eq a.front b.front && (nat_eq a.back b.back &&
    (nat_eq a.longest b.longest && beq a.whole b.whole))) ≡ true → a ≡ b
equal_summaries a b e = grind arith

-- The summary of words and of those after them.
pub summary-append : (xs ys : List Bool) → length xs + length ys < 2 ^ 32 →
    summary (xs ++ ys) ≡ join (summary xs) (summary ys)
summary-append xs ys small =
    grind (arith, front-le-length, front-append, back-le-length, back-append, widest-append, all_free-append)

-- The lowest fit.
pub lowest_front : (len : ℕ) (free : List Bool) → len ≤ front_run free → lowest_fit len free ≡ 0
lowest_front len [] fits = refl
lowest_front len (word ∷ free) fits = grind arith

-- it lies in the first words if they have one, else at their end if the hole across it is long enough, else after them
lowest-append : (len : ℕ) (xs ys : List Bool) → 1 ≤ len →
    (len ≤ widest xs → lowest_fit len (xs ++ ys) ≡ lowest_fit len xs)
    × (widest xs < len → len ≤ back_run xs + front_run ys → lowest_fit len (xs ++ ys) ≡ length xs - back_run xs)
    × (widest xs < len → back_run xs + front_run ys < len → lowest_fit len (xs ++ ys) ≡ length xs + lowest_fit len ys)
lowest-append len [] ys some = grind (arith, lowest_front)
lowest-append len (word ∷ xs) ys some =
    grind (arith, front-append, front_all, back_all, widest-le-length, back-le-length, lowest-append len xs ys some)

pub lowest-append_left : (len : ℕ) (xs ys : List Bool) → 1 ≤ len → len ≤ widest xs →
    lowest_fit len (xs ++ ys) ≡ lowest_fit len xs
lowest-append_left len xs ys some = (lowest-append len xs ys some).0

pub lowest-append_between : (len : ℕ) (xs ys : List Bool) → widest xs < len → len ≤ back_run xs + front_run ys →
    lowest_fit len (xs ++ ys) ≡ length xs - back_run xs
lowest-append_between len xs ys short = (lowest-append len xs ys (omega arith)).1 short

pub lowest-append_right : (len : ℕ) (xs ys : List Bool) → widest xs < len → back_run xs + front_run ys < len →
    lowest_fit len (xs ++ ys) ≡ length xs + lowest_fit len ys
lowest-append_right len xs ys short = (lowest-append len xs ys (omega arith)).2 short

-- The lowest fit is the front of the lowest hole that is wide enough.
drop_later : (word : Bool) (free : List Bool) (n len : ℕ) → len ≤ front_run (drop n free) →
    len ≤ front_run (drop (1 + n) (word ∷ free))
drop_later word free n len e = grind arith

pub fit_here : (len : ℕ) (free : List Bool) → 1 ≤ len → len ≤ widest free →
    len ≤ front_run (drop (lowest_fit len free) free)
fit_here len [] some fits = absurd (omega arith)
fit_here len (word ∷ free) some fits = grind (arith, drop_later, fit_here len free some)

pub fit_before : (len place : ℕ) (free : List Bool) → place < lowest_fit len free → front_run (drop place free) < len
fit_before len place [] lt = absurd (omega arith)
fit_before len zero (word ∷ free) lt = grind arith
fit_before len (suc place) (word ∷ free) lt = grind (arith, fit_before len place free)

front_free : (free : List Bool) (word : ℕ) → word < front_run free → is_free free word ≡ true
front_free [] word lt = absurd (omega arith)
front_free (bit ∷ free) zero lt = grind arith
front_free (bit ∷ free) (suc word) lt = grind (arith, front_free free word)

pub front_end : (free : List Bool) → is_free free (front_run free) ≡ false
front_end [] = refl
front_end (false ∷ free) = refl
front_end (true ∷ free) = grind (arith, front_end free)

front_at_least : (free : List Bool) (len : ℕ) → ((word : ℕ) → word < len → is_free free word ≡ true) →
    len ≤ front_run free
front_at_least free len all = grind (arith, front_end free)

pub run_free : (free : List Bool) (place len : ℕ) → len ≤ front_run (drop place free) → AllFree free place len
run_free free place len fits word from to =
    grind (
      arith,
      get_or-drop place free (word - place) false,
      front_free (drop place free) (word - place) (omega arith),
    )

pub free_run : (free : List Bool) (place len : ℕ) → AllFree free place len → len ≤ front_run (drop place free)
free_run free place len all = grind (arith, front_at_least, get_or-drop)

pub lowest_within : (len : ℕ) (free : List Bool) → 1 ≤ len → len ≤ widest free →
    lowest_fit len free + len ≤ length free
lowest_within len [] some fits = absurd (omega arith)
lowest_within len (word ∷ free) some fits = grind (arith, front-le-length, lowest_within len free some)

pub lowest_is_lowest : (len : ℕ) (free : List Bool) → 1 ≤ len → len ≤ widest free →
    IsLowestFit free len (lowest_fit len free)
lowest_is_lowest len free some fits =
    let place = lowest_fit len free in
    let run = front_run (drop place free) in
    let wide : len ≤ run = fit_here len free some fits in
    let inside = run_free free place run (omega arith) in
    record {
      hole_len = run;
      hole = record {
        some = omega arith;
        inside = inside;
        before = λ word next. grind (arith, fit_before len word free, free_run free word len);
        behind = grind (arith, get_or-drop, front_end);
      };
      fits = wide;
      lowest = λ other other_len is long. grind (arith, fit_before len other free, free_run free other other_len);
    }

pub run-le-widest : (place : ℕ) (free : List Bool) → front_run (drop place free) ≤ widest free
run-le-widest zero free = front-le-widest free
run-le-widest (suc place) [] = omega arith
run-le-widest (suc place) (word ∷ free) = omega (arith, run-le-widest place free)

-- a free word begins a run
pub word_run : (free : List Bool) (word : ℕ) → is_free free word ≡ true → 1 ≤ front_run (drop word free)
word_run free word is = grind (arith, free_run)

-- The lowest free word.
pub lowest_free-fit : (free : List Bool) → lowest_fit 1 free ≡ lowest_free free
lowest_free-fit [] = refl
lowest_free-fit (word ∷ free) = grind (arith, lowest_free-fit free)

pub lowest_free-none : (free : List Bool) → widest free < 1 → lowest_free free ≡ length free
lowest_free-none [] none = refl
lowest_free-none (word ∷ free) none = grind (arith, lowest_free-none free)
