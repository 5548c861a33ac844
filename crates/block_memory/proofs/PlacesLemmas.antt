-- Lemmas on the free words of a region: those of the holes, and those of ranges that are kept beside them.
use Rattle.std.proofs.Common.{◌≡◌, ◌≢◌, ◌⊎◌, ℕ, zero, suc, ◌+◌, ◌<◌, ◌≤◌, Bool, true, false, List, [], ◌∷◌, length}
use Rattle.std.proofs.Common.{slice_set, Option, Some, None, inl, inr, refl, sym, ap, subst, ◌∙◌, is_some, replicate}
use Rattle.std.proofs.Common.{arith, rules}
use Rattle.std.proofs.lemmas.Bool.{cases_eq}
use Rattle.std.specs.Prelude.{IfSome, IfNone}
use Rattle.std.proofs.lemmas.List.{ext_get_or, map-set, length-map, length-set, get_or_past, length-replicate}
use Rattle.std.proofs.Math.ListN.{get_or-map}
use Rattle.holes.specs.FreeWords.{Region, is_free, set_range, AllFree, NoneFree, given_to, taken_from, IsLowestFit}
use Rattle.block_memory.specs.Table.{value_at}
use Rattle.block_memory.specs.Layout.{PlacedBlock, Covers, Layout}
use Rattle.block_memory.specs.Region.{IsCovered, IsRegion, HasRoom}
use Rattle.block_memory.specs.Places.{ArePlaces, AreAllEmpty, IsTaken, free_with, slot_of, slots_of, with_kept}
use Rattle.block_memory.specs.declared.places.WordRange.{WordRange}
use Rattle.block_memory.proofs.Lists.{same_some, None≢Some, true-not_false, IsSome-in_range}
use Rattle.block_memory.proofs.LayoutLemmas.{Covers-set, Covers-set_here, Covers-set_other, Covers-set_none, Covers-by}
use Rattle.block_memory.proofs.LayoutLemmas.{AreApart-set, value_at-set_same, value_at-set_other}
use Rattle.block_memory.proofs.FreeLemmas.{length-set_range, is_free-set_inside, is_free-still, is_free-outside}
use Rattle.block_memory.proofs.FreeLemmas.{is_free-set_alike, in_or_out}

-- each range lies in a region of this size
abbrev AreInside : List (Option PlacedBlock) → ℕ → Type 0
AreInside kept size = (n : ℕ) (p : PlacedBlock) → value_at kept n ≡ Some p → p.place + p.len ≤ size

later : (o : Option PlacedBlock) (kept : List (Option PlacedBlock)) (size : ℕ) → AreInside (o ∷ kept) size
    → AreInside kept size
later o kept size inside n p there = inside (suc n) p there

cover_later : (o : Option PlacedBlock) {kept : List (Option PlacedBlock)} {n word : ℕ} → Covers kept n word → Covers
    (o ∷ kept) (suc n) word
cover_later o c = grind arith

cover_back : {o : Option PlacedBlock} {kept : List (Option PlacedBlock)} {n word : ℕ} → Covers (o ∷ kept) (suc n) word
    → Covers kept n word
cover_back c = record { block = c.block; there = c.there; from = c.from; below = c.below }

pub length-free_with : (free : List Bool) (kept : List (Option PlacedBlock)) → AreInside kept (length free)
    → length (free_with free kept) ≡ length free
length-free_with free [] inside = refl
length-free_with free (None ∷ kept) inside = length-free_with free kept (later None kept (length free) inside)
length-free_with free (Some p ∷ kept) inside =
    let long = length-free_with free kept (later (Some p) kept (length free) inside) in
    let fits = inside zero p refl in
    length-set_range (free_with free kept) p.place p.len true (omega arith) ∙ long

-- a word of a range that is kept is free
free_with-covered : (free : List Bool) (kept : List (Option PlacedBlock)) → AreInside kept (length free)
    → (n word : ℕ) → Covers kept n word → is_free (free_with free kept) word ≡ true
free_with-covered free [] inside n word c = absurd (None≢Some c.block c.there)
free_with-covered free (None ∷ kept) inside zero word c = absurd (None≢Some c.block c.there)
free_with-covered free (None ∷ kept) inside (suc n) word c =
    free_with-covered free kept (later None kept (length free) inside) n word (cover_back c)
free_with-covered free (Some p ∷ kept) inside zero word c =
    let long = length-free_with free kept (later (Some p) kept (length free) inside) in
    let fits = inside zero p refl in
    let by = Covers-by p refl c in
    is_free-set_inside (free_with free kept) p.place p.len word true (omega arith) by.0 by.1
free_with-covered free (Some p ∷ kept) inside (suc n) word c =
    let long = length-free_with free kept (later (Some p) kept (length free) inside) in
    let fits = inside zero p refl in
    is_free-still (free_with free kept) p.place p.len word true (omega arith)
    (free_with-covered free kept (later (Some p) kept (length free) inside) n word (cover_back c))

-- every other word is as in the holes
free_with-bare : (free : List Bool) (kept : List (Option PlacedBlock)) → AreInside kept (length free) → (word : ℕ)
    → ((n : ℕ) → Covers kept n word → ⊥) → is_free (free_with free kept) word ≡ is_free free word
free_with-bare free [] inside word bare = refl
free_with-bare free (None ∷ kept) inside word bare =
    free_with-bare free kept (later None kept (length free) inside) word
    (λ n c. bare (suc n) (cover_later None c))
free_with-bare free (Some p ∷ kept) inside word bare =
    let long = length-free_with free kept (later (Some p) kept (length free) inside) in
    let fits = inside zero p refl in
    is_free-outside (free_with free kept) p.place p.len word true (omega arith)
    (λ from to. bare zero (record { block = p; there = refl; from = from; below = to }))
    ∙ free_with-bare free kept (later (Some p) kept (length free) inside) word
    (λ n c. bare (suc n) (cover_later (Some p) c))

-- if no range is kept
pub free_with-none : (free : List Bool) (kept : List (Option PlacedBlock))
    → ((n : ℕ) → value_at kept n ≡ None) → free_with free kept ≡ free
free_with-none free [] none = refl
free_with-none free (None ∷ kept) none = free_with-none free kept (λ n. none (suc n))
free_with-none free (Some p ∷ kept) none = absurd (None≢Some p (sym (none zero)))

not_first : (o : Option PlacedBlock) {kept : List (Option PlacedBlock)} {word : ℕ}
    → ((n : ℕ) → Covers kept n word → ⊥) → (Covers (o ∷ kept) zero word → ⊥) → (n : ℕ) → Covers (o ∷ kept) n word → ⊥
not_first o bare first zero c = first c
not_first o bare first (suc n) c = bare n (cover_back c)

-- a word is in a range that is kept, or in none
covered_or_bare : (kept : List (Option PlacedBlock)) (word : ℕ)
    → IsCovered kept word ⊎ ((n : ℕ) → Covers kept n word → ⊥)
covered_or_bare [] word = inr (λ n c. None≢Some c.block c.there)
covered_or_bare (o ∷ kept) word =
    elim (covered_or_bare kept word) [
      | inl c ↦ grind (arith, cover_later o c.covers)
      | inr bare ↦ by_first o bare
    ]
  where
    by_first : (first : Option PlacedBlock) → ((n : ℕ) → Covers kept n word → ⊥)
        → IsCovered (first ∷ kept) word ⊎ ((n : ℕ) → Covers (first ∷ kept) n word → ⊥)
    by_first None bare = inr (not_first None bare (λ c. None≢Some c.block c.there))
    by_first (Some p) bare =
        elim (in_or_out p.place p.len word) [
          | inl here ↦ inl (record {
            number = zero;
            covers = record { block = p; there = refl; from = here.0; below = here.1 };
          })
          | inr out ↦ inr (not_first (Some p) bare (λ c. let by = Covers-by p refl c in out by.0 by.1))
        ]

-- words that are free in the ranges that are kept, and elsewhere as in the holes
is_whole : (free all : List Bool) (kept : List (Option PlacedBlock)) → AreInside kept (length free)
    → length all ≡ length free
    → ((n word : ℕ) → Covers kept n word → is_free all word ≡ true)
    → ((word : ℕ) → ((n : ℕ) → Covers kept n word → ⊥) → is_free all word ≡ is_free free word)
    → free_with free kept ≡ all
is_whole free all kept inside long covered bare =
    ext_get_or false (free_with free kept) all (length-free_with free kept inside ∙ sym long)
    (λ word below. elim (covered_or_bare kept word) [
      | inl c ↦
          free_with-covered free kept inside c.number word c.covers ∙ sym (covered c.number word c.covers)
      | inr none ↦ free_with-bare free kept inside word none ∙ sym (bare word none)
    ])

ruleset ranges = (length-set_range, is_free-set_inside, is_free-outside, is_free-still, is_free-set_alike)

module _ (holes : Region) (kept : List (Option PlacedBlock)) (a : ArePlaces holes kept) where
  abbrev whole : List Bool
  whole = free_with holes.free kept

  inside : AreInside kept (length holes.free)
  inside n p there = (a.within n p there).1

  pub length-whole : length whole ≡ length holes.free
  length-whole = length-free_with holes.free kept inside

  covered_free : (n word : ℕ) → Covers kept n word → is_free whole word ≡ true
  covered_free n word c = search (rules, free_with-covered, inside)

  -- no range that is kept has a word that isn't free
  not_covered : (word : ℕ) → is_free whole word ≡ false → (n : ℕ) → Covers kept n word → ⊥
  not_covered word h n c = search (rules, true-not_false, whole, covered_free)

  taken_there : (word : ℕ) → is_free whole word ≡ false → is_free holes.free word ≡ false
  taken_there word h = sym (free_with-bare holes.free kept inside word (not_covered word h)) ∙ h

  pub none_free-there : (place len : ℕ) → NoneFree whole place len → NoneFree holes.free place len
  none_free-there place len none word from below = taken_there word (none word from below)

  -- the words of a hole are free
  pub all_free-whole : (place len : ℕ) → AllFree holes.free place len → AllFree whole place len
  all_free-whole place len all word from below =
      elim (covered_or_bare kept word) [
        | inl c ↦ covered_free c.number word c.covers
        | inr none ↦ free_with-bare holes.free kept inside word none ∙ all word from below
      ]

  -- a range without a word of those that are kept comes to the holes, or goes
  module _ (place len : ℕ) (value : Bool) (fits : place + len ≤ length holes.free)
      (apart : (n word : ℕ) → Covers kept n word → place ≤ word → word < place + len → ⊥) where
    abbrev changed : Region
    changed = record { free = set_range holes.free place len value; most = holes.most }

    long_changed : length changed.free ≡ length holes.free
    long_changed = omega (arith, length-set_range)

    pub places-beside : ArePlaces changed kept
    places-beside = record {
      apart = a.apart;
      taken = λ n word c. is_free-outside holes.free place len word value fits (apart n word c) ∙ a.taken n word c;
      within = grind (arith, long_changed);
      room = omega (arith, a.room, long_changed);
    }

    pub whole-beside : free_with changed.free kept ≡ set_range whole place len value
    whole-beside =
        search (rules, arith, ranges, is_whole, long_changed, inside, covered_free, free_with-bare, length-whole)

  -- a range is kept at an index at which none was
  module _ (k : ℕ) (p : PlacedBlock) (in_range : k < length kept) (empty : value_at kept k ≡ None) (some : 1 ≤ p.len)
      (fits : p.place + p.len ≤ length whole) (none_free : NoneFree whole p.place p.len) where
    pub places-put : ArePlaces holes (slice_set kept k (Some p))
    places-put = record {
      apart =
          AreApart-set kept k p in_range a.apart
          (λ other word from below c. absurd (not_covered word (none_free word from below) other c));
      taken = λ n word c. elim (Covers-set kept k p in_range c) [
        | inl here ↦ taken_there word (none_free word here.1.0 here.1.1)
        | inr other ↦ a.taken n word other.1
      ];
      within = grind (arith, same_some, slice_set, value_at-set_same, length-whole, value_at-set_other);
      room = a.room;
    }

    pub whole-put : free_with holes.free (slice_set kept k (Some p)) ≡ set_range whole p.place p.len true
    whole-put =
        is_whole holes.free (set_range whole p.place p.len true) (slice_set kept k (Some p))
        (λ n q there. (places-put.within n q there).1)
        (length-set_range whole p.place p.len true fits ∙ length-whole)
        (λ n word c. elim (Covers-set kept k p in_range c) [
          | inl here ↦ grind (arith, is_free-set_inside, whole)
          | inr other ↦ is_free-still whole p.place p.len word true fits (covered_free n word other.1)
        ])
        (λ word none. is_free-outside whole p.place p.len word true fits
        (λ from to. none k (Covers-set_here kept p in_range from to))
        ∙ free_with-bare holes.free kept inside word
        (λ n c. let differs : n ≢ k = grind arith in none n (Covers-set_other k (Some p) differs c)))

  -- the range at an index goes
  module _ (k : ℕ) (p : PlacedBlock) (there : value_at kept k ≡ Some p) where
    in_kept : k < length kept
    in_kept = IsSome-in_range kept k (ap is_some there)

    its_words : (word : ℕ) → p.place ≤ word → word < p.place + p.len → Covers kept k word
    its_words word from below = grind arith

    pub fits_there : p.place + p.len ≤ length holes.free
    fits_there = inside k p there

    fits_whole : p.place + p.len ≤ length whole
    fits_whole = omega (arith, fits_there, length-whole)

    pub all_free : AllFree whole p.place p.len
    all_free word from below = covered_free k word (its_words word from below)

    pub none_free : NoneFree holes.free p.place p.len
    none_free word from below = a.taken k word (its_words word from below)

    apart_from : (n word : ℕ) → Covers (slice_set kept k None) n word → p.place ≤ word → word < p.place + p.len → ⊥
    apart_from n word c from below =
        let other = Covers-set_none kept k in_kept c in
        other.0 (a.apart n k word other.1 (its_words word from below))

    bare_before : (word : ℕ) → (p.place ≤ word → word < p.place + p.len → ⊥)
        → ((n : ℕ) → Covers (slice_set kept k None) n word → ⊥) → (n : ℕ) → Covers kept n word → ⊥
    bare_before word outside none n c =
        elim (cases_eq n k) [
          | inl same ↦
              grind arith
          | inr other ↦ none n (Covers-set_other k None other c)
        ]

    pub places-gone : ArePlaces holes (slice_set kept k None)
    places-gone = record {
      apart =
          λ m n word b c. a.apart m n word (Covers-set_none kept k in_kept b).1
          (Covers-set_none kept k in_kept c).1;
      taken = λ n word c. a.taken n word (Covers-set_none kept k in_kept c).1;
      within = grind (arith, value_at-set_same, in_kept, slice_set, value_at-set_other);
      room = a.room;
    }

    -- its words are taken
    pub whole-gone : free_with holes.free (slice_set kept k None) ≡ set_range whole p.place p.len false
    whole-gone =
        is_whole holes.free (set_range whole p.place p.len false) (slice_set kept k None)
        (λ n q found. (places-gone.within n q found).1)
        (length-set_range whole p.place p.len false fits_whole ∙ length-whole)
        (λ n word c. is_free-outside whole p.place p.len word false fits_whole (apart_from n word c)
        ∙ covered_free n word (Covers-set_none kept k in_kept c).1)
        (λ word none.
        let bare = λ (out : p.place ≤ word → word < p.place + p.len → ⊥).
        free_with-bare holes.free kept inside word (bare_before word out none) in
        let taken = none_free word in grind (arith, in_or_out, is_free-set_inside, is_free-outside, fits_whole))

    -- or the holes have them
    pub places-returned : ArePlaces (given_to holes p.place p.len) (slice_set kept k None)
    places-returned = let long = length-set_range holes.free p.place p.len true fits_there in record {
      apart = places-gone.apart;
      taken = λ n word c. is_free-outside holes.free p.place p.len word true fits_there (apart_from n word c)
          ∙ places-gone.taken n word c;
      within = λ n q found. let w = places-gone.within n q found in (w.0, omega (arith, w.1, long));
      room = omega (arith, a.room, long);
    }

    pub whole-returned : free_with (given_to holes p.place p.len).free (slice_set kept k None) ≡ whole
    whole-returned =
        is_whole (given_to holes p.place p.len).free whole (slice_set kept k None)
        (λ n q found. (places-returned.within n q found).1)
        (length-whole ∙ sym (length-set_range holes.free p.place p.len true fits_there))
        (λ n word c. covered_free n word (Covers-set_none kept k in_kept c).1)
        (λ word none.
        let bare = λ (out : p.place ≤ word → word < p.place + p.len → ⊥).
        free_with-bare holes.free kept inside word (bare_before word out none) in
        let free = all_free word in grind (arith, in_or_out, is_free-set_inside, is_free-outside, fits_there))

-- the ranges that are kept, seen as blocks
slot_at : (kept : List (Option WordRange)) (n : ℕ) → value_at (slots_of kept) n ≡ slot_of (value_at kept n)
slot_at kept n = get_or-map slot_of kept n None

slots-set : (kept : List (Option WordRange)) (n : ℕ) (o : Option WordRange)
    → slots_of (slice_set kept n o) ≡ slice_set (slots_of kept) n (slot_of o)
slots-set kept n o = map-set slot_of kept n o

-- the region of these words
abbrev with_words : ℕ → List Bool → Region
with_words most free = record { free = free; most = most }

-- if no range is kept, all free words are in the holes
module _ (holes : Region) (kept : List (Option WordRange)) (empty : AreAllEmpty kept) where
  no_slot : (n : ℕ) → value_at (slots_of kept) n ≡ None
  no_slot n = slot_at kept n ∙ ap slot_of (empty n)

  pub holes-whole : with_kept holes kept ≡ holes
  holes-whole = grind (arith, with_words, free_with-none, no_slot)

  pub places-none : length holes.free < holes.most → ArePlaces holes (slots_of kept)
  places-none room = grind (arith, no_slot)

-- the ranges up to an index go, one after another
pub emptied_next : (kept : List (Option WordRange)) (index : ℕ) → ((n : ℕ) → n < index → value_at kept n ≡ None)
    → (n : ℕ) → n < index + 1 → value_at (slice_set kept index None) n ≡ None
emptied_next kept index first n below =
    grind (arith, value_at-set_other, slice_set, value_at-set_same, get_or_past, length-set)

pub all_emptied : (kept : List (Option WordRange)) (index : ℕ) → length kept ≤ index
    → ((n : ℕ) → n < index → value_at kept n ≡ None) → AreAllEmpty kept
all_emptied kept index past first n = grind (arith, get_or_past)

module _ (holes : Region) (kept : List (Option WordRange)) (a : ArePlaces holes (slots_of kept)) where
  -- words are taken of a hole
  pub taken_of_hole : (place len : ℕ) → IsLowestFit holes.free len place → place + len ≤ length holes.free
      → ArePlaces (taken_from holes place len) (slots_of kept)
      × IsTaken (with_kept holes kept) (with_kept (taken_from holes place len) kept) place len
  taken_of_hole place len fit fits =
      let all : AllFree holes.free place len =
      grind arith in
      let apart : (n word : ℕ) → Covers (slots_of kept) n word → place ≤ word → word < place + len → ⊥ =
      λ n word c from below. true-not_false (is_free holes.free word) (all word from below) (a.taken n word c) in (
        places-beside holes (slots_of kept) a place len false fits apart,
        record {
          free = all_free-whole holes (slots_of kept) a place len all;
          within = omega (arith, fits, length-whole holes (slots_of kept) a);
          taken = grind (arith, with_words, whole-beside);
        },
      )

  -- words are given to the holes
  pub given_to_holes : (place len : ℕ) → place + len ≤ length (with_kept holes kept).free
      → NoneFree (with_kept holes kept).free place len
      → ArePlaces (given_to holes place len) (slots_of kept)
      × (with_kept (given_to holes place len) kept ≡ given_to (with_kept holes kept) place len)
  given_to_holes place len fits none =
      let within : place + len ≤ length holes.free = omega (arith, fits, length-whole holes (slots_of kept) a) in
      let apart : (n word : ℕ) → Covers (slots_of kept) n word → place ≤ word → word < place + len → ⊥ =
      λ n word c from below. not_covered holes (slots_of kept) a word (none word from below) n c in (
        places-beside holes (slots_of kept) a place len true within apart,
        ap (with_words holes.most)
            (whole-beside holes (slots_of kept) a place len true within apart),
      )

  -- after words were taken of a hole, or none
  pub after_take : (len : ℕ) (new : Region) (result : Option ℕ) → IfSome result (IsLowestFit holes.free len)
      → IfSome result (λ place. place + len ≤ length holes.free)
      → IfSome result (λ place. new ≡ taken_from holes place len) → IfNone result (new ≡ holes)
      → ArePlaces new (slots_of kept)
      × IfSome result (λ place. IsTaken (with_kept holes kept) (with_kept new kept) place len)
  after_take len new None lowest within taken unchanged = (rw unchanged a, tt)
  after_take len new (Some place) lowest within taken unchanged = rw taken (taken_of_hole place len lowest within)

  -- a range comes to an index after that was emptied
  pub kept_next : (all : Region) → with_kept holes kept ≡ all → (before : List (Option WordRange))
      (index : ℕ) (range : WordRange) → index < length before → kept ≡ slice_set before index None → 1 ≤ range.len
      → range.place + range.len ≤ length all.free → NoneFree all.free range.place range.len
      → ArePlaces holes (slots_of (slice_set kept index (Some range)))
      × (with_kept holes (slice_set kept index (Some range)) ≡ given_to all range.place range.len)
  kept_next all same before index range in_range emptied some fits none =
      let p : PlacedBlock = record { owner = 0; place = range.place; len = range.len; words = [] } in
      let within : index < length (slots_of kept) =
      grind (arith, length-map, length-set) in
      let empty : value_at (slots_of kept) index ≡ None =
      grind (arith, slot_at, value_at-set_same) in
      let there_fits : range.place + range.len ≤ length (free_with holes.free (slots_of kept)) =
      rw (← same) at fits in
      let there_none : NoneFree (free_with holes.free (slots_of kept)) range.place range.len = rw (← same) at none in
      let put = slots-set kept index (Some range) in (
        rw put (places-put holes (slots_of kept) a index p within empty some there_fits there_none),
        ap (with_words holes.most)
            (ap (free_with holes.free) put
            ∙ whole-put holes (slots_of kept) a index p within empty some there_fits there_none)
            ∙ ap (λ (r : Region). given_to r range.place range.len) same,
      )

  -- what is known of the range of an index
  module _ (index : ℕ) (range : WordRange) (there : value_at kept index ≡ Some range) where
    abbrev slot : PlacedBlock
    slot = record { owner = 0; place = range.place; len = range.len; words = [] }

    slot_there : value_at (slots_of kept) index ≡ Some slot
    slot_there = slot_at kept index ∙ ap slot_of there

    pub range_some : 1 ≤ range.len
    range_some = (a.within index slot slot_there).0

    pub range_within : range.place + range.len ≤ length holes.free
    range_within = (a.within index slot slot_there).1

    pub range_taken : NoneFree holes.free range.place range.len
    range_taken = grind (arith, none_free, slot, slot_there)

    gone : slots_of (slice_set kept index None) ≡ slice_set (slots_of kept) index None
    gone = slots-set kept index None

    -- it is taken
    pub taken_at_hand : ArePlaces holes (slots_of (slice_set kept index None))
        × IsTaken (with_kept holes kept) (with_kept holes (slice_set kept index None)) range.place range.len
    taken_at_hand = (
      rw gone (places-gone holes (slots_of kept) a index slot slot_there),
      record {
        free = all_free holes (slots_of kept) a index slot slot_there;
        within = omega (arith, range_within, length-whole holes (slots_of kept) a);
        taken = ap (with_words holes.most)
            (ap (free_with holes.free) gone ∙ whole-gone holes (slots_of kept) a index slot slot_there);
      },
    )

    -- it goes to the holes
    pub returned : ArePlaces (given_to holes range.place range.len) (slots_of (slice_set kept index None))
        × (with_kept (given_to holes range.place range.len) (slice_set kept index None) ≡ with_kept holes kept)
    returned = (
      rw gone (places-returned holes (slots_of kept) a index slot slot_there),
      ap (with_words holes.most)
          (ap (free_with (given_to holes range.place range.len).free) gone
          ∙ whole-returned holes (slots_of kept) a index slot slot_there),
    )

-- words that were taken are room for a block
pub room_of : {layout : Layout} {before after : Region} {covered place len : ℕ} → IsRegion layout before covered →
    IsTaken before after place len → HasRoom layout after covered place len
room_of r t = grind arith

pub room_after : (layout : Layout) (after : Region) (covered place len : ℕ) → HasRoom layout after covered place len
    → length after.free < after.most
room_after layout after covered place len h = grind (arith, length-set_range)

-- all words that were free are in the holes, and no range is kept
module _ (before holes : Region) (kept : List (Option WordRange)) (empty : AreAllEmpty kept)
    (same : holes ≡ before) where
  -- words were taken of a hole then
  pub taken_after_all : (layout : Layout) (covered place len : ℕ) → IsRegion layout before covered
      → IsLowestFit holes.free len place → place + len ≤ length holes.free → (new : Region)
      → new ≡ taken_from holes place len
      → ArePlaces new (slots_of kept) × HasRoom layout (with_kept new kept) covered place len
  taken_after_all layout covered place len r fit within new taken =
      let room : length holes.free < holes.most = rw (← same) at r.room in
      let both = taken_of_hole holes kept (places-none holes kept empty room) place len fit within in (
        rw taken both.0,
        room_of r
            (rw taken (subst (λ (r : Region). IsTaken r (with_kept (taken_from holes place len) kept) place len)
            (holes-whole holes kept empty ∙ same) both.1)),
      )

-- ---- what proofs of functions use

pub ruleset for_give = (length-whole, none_free-there, given_to_holes, kept_next)

pub ruleset for_make_room = (holes-whole, places-none, taken_after_all, room_after)

pub ruleset for_new = (length-replicate, holes-whole, places-none)

pub ruleset for_pack = (holes-whole, places-none)

pub ruleset for_take = (after_take, taken_at_hand)

pub ruleset for_give_all_back = (length-set, emptied_next, all_emptied, holes-whole)

pub ruleset for_give_back = (range_some, range_within, range_taken, returned)
