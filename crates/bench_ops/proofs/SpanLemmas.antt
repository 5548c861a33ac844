-- Ranges that are taken and given back stay apart from each other and from the free words.
use Rattle.std.proofs.Common.{◌≡◌, ℕ, ◌+◌, ◌<◌, ◌≤◌, Bool, true, false, cond, List, length, get_or, set}
use Rattle.std.proofs.Common.{sum_by, refl, sym, ap, subst, inl, inr, arith}
use Rattle.std.specs.Prelude.{All, nat_le, nat_lt}
use Rattle.std.proofs.lemmas.Bool.{cases_lt, le-leb, lt-ltb}
use Rattle.std.proofs.lemmas.Bool.Decides.{nat_tests}
use Rattle.std.proofs.lemmas.List.Elements.{All-set}
use Rattle.std.proofs.lemmas.List.Sums.{sum_by-set}
use Rattle.holes.specs.FreeWords.{is_free, AllFree, set_range}
use Rattle.holes.proofs.Ranges.{length-set_range, set_range_inside, set_range_before, set_range_behind}
use Rattle.bench_ops.specs.declared.spans.Span.{Span}
use Rattle.bench_ops.specs.Spans.{covers, AreApart}

covers_inside : (word : ℕ) (span : Span) → span.place ≤ word → word < span.place + span.len → covers word span ≡ 1
covers_inside word span from below =
    let a : nat_le span.place word ≡ true = le-leb span.place word from in
    let b : nat_lt word (span.place + span.len) ≡ true = lt-ltb word (span.place + span.len) below in
    rw (a, b) refl

covers_before : (word : ℕ) (span : Span) → word < span.place → covers word span ≡ 0
covers_before word span before =
    let a : nat_le span.place word ≡ false = grind (arith, nat_tests) in
    rw a refl

covers_behind : (word : ℕ) (span : Span) → span.place + span.len ≤ word → covers word span ≡ 0
covers_behind word span behind =
    let a : nat_le span.place word ≡ true = le-leb span.place word (omega arith) in
    let b : nat_lt word (span.place + span.len) ≡ false = grind (arith, nat_tests) in
    rw (a, b) refl

-- a range of no words covers none
covers_nothing : (word : ℕ) (span : Span) → span.len ≡ 0 → covers word span ≡ 0
covers_nothing word span empty = elim (cases_lt word span.place) [
  | inl before ↦ covers_before word span before
  | inr from ↦ covers_behind word span (omega arith)
]

-- a range in the place of another, if the words of both are set so in the region
module _ (free : List Bool) (spans : List Span) (number : ℕ) (any : Span) (within : number < length spans)
    (apart : AreApart free spans) where
  -- a word that the change doesn't touch
  untouched : (new : Span) (after : List Bool) (word : ℕ) → covers word (get_or spans number any) ≡ 0 →
      covers word new ≡ 0 → is_free after word ≡ is_free free word →
      sum_by (covers word) (set spans number new) + cond (is_free after word) 1 0 ≤ 1
  untouched new after word old_none new_none same =
      let sums = sum_by-set (covers word) spans number new any within in
      let alike = ap {B = ℕ} (λ b. cond b 1 0) same in
      omega (arith, sums, old_none, new_none, alike, apart word)

  pub given : (new : Span) → new.len ≡ 0 →
      (get_or spans number any).place + (get_or spans number any).len ≤ length free →
      AreApart (set_range free (get_or spans number any).place (get_or spans number any).len true)
      (set spans number new)
  given new empty inside word =
      let old = get_or spans number any in
      let after = set_range free old.place old.len true in
      let none = covers_nothing word new empty in
      elim (cases_lt word old.place) [
        | inl before ↦ untouched new after word (covers_before word old before) none
            (set_range_before free old.place old.len true word (omega arith) before)
        | inr from ↦ elim (cases_lt word (old.place + old.len)) [
          | inl below ↦
              let freed = ap {B = ℕ} (λ b. cond b 1 0)
              (set_range_inside free old.place old.len true word (omega arith) from below) in
              let sums = sum_by-set (covers word) spans number new any within in
              omega (arith, freed, sums, none, covers_inside word old from below, apart word)
          | inr behind ↦ untouched new after word (covers_behind word old behind) none
              (set_range_behind free old.place old.len true word (omega arith) behind)
        ]
      ]

  pub taken : (new : Span) → (get_or spans number any).len ≡ 0 → new.place + new.len ≤ length free →
      AllFree free new.place new.len → AreApart (set_range free new.place new.len false) (set spans number new)
  taken new empty inside all word =
      let after = set_range free new.place new.len false in
      let none = covers_nothing word (get_or spans number any) empty in
      elim (cases_lt word new.place) [
        | inl before ↦ untouched new after word none (covers_before word new before)
            (set_range_before free new.place new.len false word (omega arith) before)
        | inr from ↦ elim (cases_lt word (new.place + new.len)) [
          | inl below ↦
              let gone = ap {B = ℕ} (λ b. cond b 1 0)
              (set_range_inside free new.place new.len false word (omega arith) from below) in
              let was = ap {B = ℕ} (λ b. cond b 1 0) (all word from below) in
              let sums = sum_by-set (covers word) spans number new any within in
              omega (arith, gone, was, sums, none, covers_inside word new from below, apart word)
          | inr behind ↦ untouched new after word none (covers_behind word new behind)
              (set_range_behind free new.place new.len false word (omega arith) behind)
        ]
      ]

-- all ranges lie within the region, also if one is changed and words of the region are set
pub all_within : (free : List Bool) (spans : List Span) (number : ℕ) (new : Span) (place len : ℕ) (value : Bool) →
    All (λ span. span.place + span.len ≤ length free) spans → new.place + new.len ≤ length free →
    place + len ≤ length free →
    All (λ span. span.place + span.len ≤ length (set_range free place len value)) (set spans number new)
all_within free spans number new place len value all fits inside =
    subst (λ n. All (λ (span : Span). span.place + span.len ≤ n) (set spans number new))
    (sym (length-set_range free place len value inside))
    (All-set (λ (span : Span). span.place + span.len ≤ length free) spans number new fits all)
