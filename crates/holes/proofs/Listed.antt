-- Every region's holes can be listed, which is what the counts of holes count.
use Rattle.std.proofs.Common.{◌≡◌, ℕ, ◌+◌, ◌-◌, ◌<◌, Bool, true, false, List, [], ◌∷◌, length, map, drop, get_or, refl}
use Rattle.std.proofs.Common.{subst, arith, zero, suc}
use Rattle.std.proofs.lemmas.List.{length-map, get_or-map, get_or-drop}
use Rattle.holes.specs.FreeWords.{is_free, IsHole, front_run, hole_count_after, widest, Range}
use Rattle.holes.specs.Laws.{range_at, HolesAreCounted, WidestIsGreatest}
use Rattle.holes.proofs.Runs.{front_end, run_free, free_run, word_run, run-le-widest, lowest_is_lowest}

-- where the holes of some words begin, which are those from a place on, after a word that is free or not
fronts : ℕ → Bool → List Bool → List ℕ
fronts place before [] = []
fronts place before (false ∷ free) = fronts (place + 1) false free
fronts place true (true ∷ free) = fronts (place + 1) true free
fronts place false (true ∷ free) = place ∷ fronts (place + 1) true free

length-fronts : (place : ℕ) (before : Bool) (free : List Bool) →
    length (fronts place before free) ≡ hole_count_after before free
unfolding fronts
length-fronts place before [] = refl
length-fronts place before (false ∷ free) = length-fronts (place + 1) false free
length-fronts place true (true ∷ free) = length-fronts (place + 1) true free
length-fronts place false (true ∷ free) = omega (arith, length-fronts (place + 1) true free)

-- each is a free word after one that isn't free
front_at : (place : ℕ) (before : Bool) (free : List Bool) (k : ℕ) → k < length (fronts place before free) →
    (word : ℕ) × (get_or (fronts place before free) k 0 ≡ place + word) × (is_free free word ≡ true)
    × (is_free (before ∷ free) word ≡ false)
unfolding fronts
front_at place before [] k lt = absurd (omega arith)
front_at place before (false ∷ free) k lt =
    let rest = front_at (place + 1) false free k lt in (suc rest.0, omega (arith, rest.1), rest.2, rest.3)
front_at place true (true ∷ free) k lt =
    let rest = front_at (place + 1) true free k lt in (suc rest.0, omega (arith, rest.1), rest.2, rest.3)
front_at place false (true ∷ free) zero lt = (0, omega arith, refl, refl)
front_at place false (true ∷ free) (suc k) lt =
    let rest = front_at (place + 1) true free k (omega arith) in (suc rest.0, omega (arith, rest.1), rest.2, rest.3)

-- and each such word is one of them
front_of : (place : ℕ) (before : Bool) (free : List Bool) (word : ℕ) → is_free free word ≡ true →
    is_free (before ∷ free) word ≡ false →
    (k : ℕ) × (k < length (fronts place before free)) × (get_or (fronts place before free) k 0 ≡ place + word)
unfolding fronts
front_of place before [] word is none = grind arith
front_of place before (false ∷ free) zero is none = grind arith
front_of place before (false ∷ free) (suc word) is none =
    let rest = front_of (place + 1) false free word is none in (rest.0, rest.1, omega (arith, rest.2))
front_of place true (true ∷ free) zero is none = grind arith
front_of place true (true ∷ free) (suc word) is none =
    let rest = front_of (place + 1) true free word is none in (rest.0, rest.1, omega (arith, rest.2))
front_of place false (true ∷ free) zero is none = (0, omega arith, omega arith)
front_of place false (true ∷ free) (suc word) is none =
    let rest = front_of (place + 1) true free word is none in (suc rest.0, omega (arith, rest.1), omega (arith, rest.2))

fronts_rise : (place : ℕ) (before : Bool) (free : List Bool) (i k : ℕ) → i < k →
    k < length (fronts place before free) →
    get_or (fronts place before free) i 0 < get_or (fronts place before free) k 0
unfolding fronts
fronts_rise place before [] i k lt within = absurd (omega arith)
fronts_rise place before (false ∷ free) i k lt within = fronts_rise (place + 1) false free i k lt within
fronts_rise place true (true ∷ free) i k lt within = fronts_rise (place + 1) true free i k lt within
fronts_rise place false (true ∷ free) i zero lt within = absurd (omega arith)
fronts_rise place false (true ∷ free) zero (suc k) lt within =
    omega (arith, (front_at (place + 1) true free k (omega arith)).1)
fronts_rise place false (true ∷ free) (suc i) (suc k) lt within =
    fronts_rise (place + 1) true free i k (omega arith) (omega arith)

-- the hole that begins at a place
hole_from : List Bool → ℕ → Range
hole_from free place = record { place = place; len = front_run (drop place free) }

hole_at : (free : List Bool) (place : ℕ) → is_free free place ≡ true → is_free (false ∷ free) place ≡ false →
    IsHole free place (front_run (drop place free))
hole_at free place is none = record {
  some = word_run free place is;
  inside = run_free free place (front_run (drop place free)) (omega arith);
  before = grind arith;
  behind = grind (arith, get_or-drop, front_end);
}

same_len : (free : List Bool) (place len : ℕ) → IsHole free place len → front_run (drop place free) ≡ len
same_len free place len is =
    grind (arith, free_run free place len is.inside, run_free free place (front_run (drop place free)))

ends_before : (free : List Bool) (first second : ℕ) → first < second → is_free (false ∷ free) second ≡ false →
    first + front_run (drop first free) < second
ends_before free first second lt none =
    grind (arith, run_free free first (front_run (drop first free)) (omega arith) (second - 1))

range_is : (free : List Bool) (k : ℕ) → k < length (fronts 0 false free) →
    range_at (map (hole_from free) (fronts 0 false free)) k ≡ hole_from free (get_or (fronts 0 false free) k 0)
range_is free k lt = grind (arith, get_or-map)

pub holes_counted : HolesAreCounted
unfolding hole_from
holes_counted free =
    let places = fronts 0 false free in
    let count : length (map (hole_from free) places) ≡ length places = length-map places (hole_from free) in (
      map (hole_from free) places,
      record {
        each = λ k lt. let front = front_at 0 false free k (omega arith) in
            grind (arith, range_is, hole_at free front.0 front.2 front.3);
        every = λ place len is.
            let front = front_of 0 false free place (is.inside place (omega arith) (omega (arith, is.some)))
            (grind (arith, is.before)) in
            (front.0, omega (arith, front.1), grind (arith, range_is), grind (arith, range_is, same_len));
        ordered = λ i k lt within.
            let front = front_at 0 false free k (omega arith) in
            let rise = fronts_rise 0 false free i k lt (omega arith) in
            grind (arith, range_is, ends_before);
      },
      omega (arith, length-fronts),
    )

pub widest_greatest : WidestIsGreatest
widest_greatest free = record {
  above = λ place len is. omega (arith, free_run free place len is.inside, run-le-widest place free);
  reached = λ some.
      let lowest = lowest_is_lowest (widest free) free some (omega arith) in
      let len : lowest.hole_len ≡ widest free =
      omega (
        arith,
        lowest.fits,
        free_run free _ lowest.hole_len lowest.hole.inside,
        run-le-widest,
      ) in
      (_, subst (IsHole free _) len lowest.hole);
}
