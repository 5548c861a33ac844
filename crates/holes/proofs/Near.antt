-- Looking for the lowest fit in some bitmaps that follow one another.
use Rattle.std.proofs.Common.{◌≡◌, ℕ, ◌+◌, ◌-◌, ◌*◌, ◌/◌, ◌<◌, ◌≤◌, true, false, cond, List, ◌++◌, length, get_or}
use Rattle.std.proofs.Common.{Option, IsNone, IfSome, arith, ◌^◌}
use Rattle.std.specs.Prelude.{replicate}
use Rattle.holes.specs.declared.summary.Summary.{Summary}
use Rattle.std.specs.Int.{w64, trailing_zeros}
use Rattle.holes.specs.FreeWords.{front_run, widest}
use Rattle.holes.specs.Tree.{words_of_bits, word_at, words_of, words_between, all_free, back_run, lowest_fit, summary}
use Rattle.holes.specs.Tree.{join, NoneBelow}
use Rattle.holes.proofs.Runs.{lowest_front, front-le-widest, front-le-length, back-le-length, widest-append}
use Rattle.holes.proofs.Runs.{back-append, summary-append, lowest-append_left, lowest-append_between}
use Rattle.holes.proofs.Runs.{lowest-append_right}
use Rattle.holes.proofs.Bits.{length-words, words_from-add, all_words}
use Rattle.holes.proofs.Bitmaps.{length-bits, gap, free_front, widest_before, lowest_before, summary_of_zero}
use Rattle.holes.proofs.Nodes.{bitmap_words}

pub length-between : (bits : List ℕ) (first end : ℕ) → length (words_between bits first end) ≡ 64 * (end - first)
length-between bits first end = omega (arith, length-words)

pub between_split : (bits : List ℕ) (first index end : ℕ) → first ≤ index → index ≤ end →
    words_between bits first end ≡ words_between bits first index ++ words_between bits index end
between_split bits first index end from to =
    grind (arith, words_from-add (word_at bits) (64 * first) (64 * (index - first)) (64 * (end - index)))

pub one_bitmap : (bits : List ℕ) (index : ℕ) →
    words_between bits index (index + 1) ≡ words_of_bits (get_or bits index 0)
one_bitmap bits index = grind (arith, bitmap_words)

between_next : (bits : List ℕ) (first index : ℕ) → first ≤ index →
    words_between bits first (index + 1) ≡ words_between bits first index ++ words_of_bits (get_or bits index 0)
between_next bits first index from =
    cc (between_split bits first index (index + 1) from (omega arith), one_bitmap bits index)

-- the lowest fit of some bitmaps
pub record Found (bits : List ℕ) (len first end place : ℕ) : Type 0 where
  pub fits : len ≤ widest (words_between bits first end)
  pub lowest : place ≡ 64 * first + lowest_fit len (words_between bits first end)

found_before : (bits : List ℕ) (len first index end place : ℕ) → 1 ≤ len → first ≤ index → index ≤ end →
    len ≤ widest (words_between bits first index) →
    place ≡ 64 * first + lowest_fit len (words_between bits first index) → Found bits len first end place
found_before bits len first index end place some from to fits is =
    grind (arith, between_split bits first index end, widest-append, lowest-append_left)

-- no hole of the bitmaps up to an index is wide enough, and `run` words are free right before it
pub record Passed (bits : List ℕ) (len first index run : ℕ) : Type 0 where
  pub short : widest (words_between bits first index) < len
  pub back : back_run (words_between bits first index) ≡ run
  pub run_within : run ≤ 64 * (index - first)
  -- the lowest fit begins right before the next bitmap, or in it
  pub before : (end : ℕ) → index < end → len ≤ run + front_run (words_of_bits (get_or bits index 0)) →
      Found bits len first end (64 * index - run)
  pub inside : (end place : ℕ) → index < end → run + front_run (words_of_bits (get_or bits index 0)) < len →
      len ≤ widest (words_of_bits (get_or bits index 0)) →
      place ≡ lowest_fit len (words_of_bits (get_or bits index 0)) → Found bits len first end (64 * index + place)

passed : (bits : List ℕ) (len first index run : ℕ) → 1 ≤ len → first ≤ index →
    widest (words_between bits first index) < len → back_run (words_between bits first index) ≡ run →
    Passed bits len first index run
passed bits len first index run some from short back =
    let before = words_between bits first index in
    let here = words_of_bits (get_or bits index 0) in
    let next = between_next bits first index from in
    let back_len = back-le-length before in
    let before_len = length-between bits first index in
    let wide = widest-append before here in
    record {
      short = short;
      back = back;
      run_within = omega arith;
      before = λ end lt fits. found_before bits len first (index + 1) end (64 * index - run) some (omega arith)
          (omega arith) (grind arith) (grind (arith, lowest-append_between));
      inside = λ end place lt apart fits is. found_before bits len first (index + 1) end (64 * index + place) some
          (omega arith) (omega arith) (grind arith) (grind (arith, lowest-append_right));
    }

pub passed_none : (bits : List ℕ) (len first : ℕ) → 1 ≤ len → Passed bits len first first 0
passed_none bits len first some = passed bits len first first 0 some (omega arith) (grind arith) (grind arith)

-- it lies after a bitmap
pub passed_more : (bits : List ℕ) (len first index run next_run : ℕ) → 1 ≤ len → first ≤ index →
    Passed bits len first index run → run + front_run (words_of_bits (get_or bits index 0)) < len →
    widest (words_of_bits (get_or bits index 0)) < len →
    next_run ≡ cond (all_free (words_of_bits (get_or bits index 0)))
    (back_run (words_of_bits (get_or bits index 0)) + run) (back_run (words_of_bits (get_or bits index 0))) →
    Passed bits len first (index + 1) next_run
passed_more bits len first index run next_run some from before apart short is =
    passed bits len first (index + 1) next_run some (omega arith) (grind (arith, between_next, widest-append))
    (grind (arith, between_next, back-append))

-- No word is free before the first of the bitmaps.
near_words : (bits : List ℕ) (near : ℕ) → near ≤ length bits → NoneBelow bits (64 * near) →
    words_of bits ≡ replicate (64 * near) false ++ words_between bits near (length bits)
near_words bits near within none =
    grind (arith, words_from-add (word_at bits) 0 (64 * near) (64 * (length bits - near)), all_words)

pub none_near : (bits : List ℕ) (near end : ℕ) → near ≤ end → end ≡ length bits → NoneBelow bits (64 * near) →
    widest (words_between bits near end) < 1 → widest (words_of bits) < 1
none_near bits near end from all none short =
    let rest = words_between bits near (length bits) in
    grind (arith, near_words bits near (omega (arith, from, all)) none, widest_before (64 * near) rest)

pub found_near : (bits : List ℕ) (len near end place : ℕ) → 1 ≤ len → near ≤ end → end ≤ length bits →
    NoneBelow bits (64 * near) → Found bits len near end place →
    (len ≤ widest (words_of bits)) × (place ≡ lowest_fit len (words_of bits))
found_near bits len near end place some from to none found =
    let words = near_words bits near (omega arith) none in
    let split = between_split bits near end (length bits) from to in
    grind (arith, widest_before, widest-append, lowest_before, lowest-append_left)

-- the lowest free word
pub lowest_near : (bits : List ℕ) (near : ℕ) → near < length bits → NoneBelow bits (64 * near) →
    0 < get_or bits near 0 → get_or bits near 0 < 2 ^ 64 →
    (near * 64 + trailing_zeros w64 (get_or bits near 0) ≡ lowest_fit 1 (words_of bits))
    × (trailing_zeros w64 (get_or bits near 0) < 64) × (1 ≤ widest (words_of bits))
lowest_near bits near within none some small =
    let bitmap = get_or bits near 0 in
    let g = gap bitmap some small in
    let rest = bitmap / 2 ^ trailing_zeros w64 bitmap in
    let front = free_front rest g.free in
    let wide : 1 ≤ widest (words_of_bits bitmap) = omega (arith, g.same_widest, front-le-widest (words_of_bits rest)) in
    let lowest = g.same_lowest 1 (omega arith) wide in
    let word = lowest_front 1 (words_of_bits rest) front in
    let one = one_bitmap bits near in
    let found = found_near bits 1 near (near + 1) (near * 64 + trailing_zeros w64 bitmap) (omega arith) (omega arith)
    (omega arith) none (record { fits = grind arith; lowest = grind arith }) in
    (found.1, g.within, found.0)

pub found_near_if : (found : Option ℕ) (bits : List ℕ) (len near end : ℕ) → 1 ≤ len → near ≤ end →
    end ≤ length bits → NoneBelow bits (64 * near) →
    (widest (words_between bits near end) < len → IsNone found) →
    IfSome found (λ place. place ≡ 64 * near + lowest_fit len (words_between bits near end)) →
    IfSome found (λ place. len ≤ widest (words_of bits))
    × IfSome found (λ place. place ≡ lowest_fit len (words_of bits))
found_near_if found bits len near end some from to none short lowest = grind (arith, found_near bits len near end)

-- The summary of some bitmaps, one after another.
pub first_summary : (bits : List ℕ) (first : ℕ) →
    ◌≡◌ {A = Summary} (record { front = 0; back = 0; longest = 0; whole = true })
    (summary (words_between bits first first))
first_summary bits first = grind arith

pub next_summary : (bits : List ℕ) (first index : ℕ) (all : Summary) → first ≤ index → index < length bits →
    64 * length bits < 2 ^ 32 → all ≡ summary (words_between bits first index) →
    join all (summary (words_of_bits (get_or bits index 0))) ≡ summary (words_between bits first (index + 1))
next_summary bits first index all from lt small is =
    grind (arith, summary-append, length-between, length-bits, between_next)

pub all_between : (bits : List ℕ) (end : ℕ) → end ≡ length bits → words_between bits 0 end ≡ words_of bits
all_between bits end is = grind arith

-- how many words may be free at the front of a bitmap
pub ruleset looking = (front-le-length, length-bits)

-- the steps of the loop over bitmaps
pub ruleset summaries = (first_summary, next_summary, summary_of_zero)
