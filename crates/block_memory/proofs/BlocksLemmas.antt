-- Lemmas on the blocks of a region: a block that is written changes no other.
use Rattle.std.proofs.Common.{◌≡◌, ◌≢◌, ◌⊎◌, ℕ, zero, suc, ℤ, pos, ◌+◌, ◌-◌, ◌<◌, ◌≤◌, List, length, take, drop, map}
use Rattle.std.proofs.Common.{slice_index, slice_index_or, slice_set, replicate, [], Option, Some, None, is_some, inl}
use Rattle.std.proofs.Common.{inr, refl, sym, ap, subst, ◌∙◌, arith, rules}
use Rattle.std.proofs.lemmas.Bool.{cases_eq}
use Rattle.std.proofs.lemmas.List.{ext_get_or, length-map, length-set, map-set, get_or_default, set-get_or}
use Rattle.std.proofs.lemmas.List.{length-replicate, nil_from_length}
use Rattle.std.proofs.Math.ListN.{get_or-map}
use Rattle.block_memory.specs.Table.{value_at}
use Rattle.block_memory.specs.Layout.{PlacedBlock, Layout, Covers, IsClear, IsBare, Begins, words_of, words_at}
use Rattle.block_memory.specs.Layout.{block_at_place, block_with_words, place_at, place_of, covered_at, with_slot}
use Rattle.block_memory.specs.BlocksInside.{block_of_span, slots_from, AreBlocks, IsAtHome, covered_in}
use Rattle.block_memory.specs.BlocksWritten.{IsWritten, IsMarked, IsLengthened}
use Rattle.std.specs.Prelude.{All}
use Rattle.block_memory.specs.Writing.{IsApart, span_of, span_at as span_in, words_in}
use Rattle.block_memory.specs.declared.span.Span.{Span}
use Rattle.block_memory.proofs.Lists.{value_at-none, IsSome-in_range, same_some, None≢Some, items_after_write}
use Rattle.block_memory.proofs.Lists.{with_more}
use Rattle.block_memory.proofs.LayoutLemmas.{length-part, same_part, value_at-set_same, value_at-set_other}
use Rattle.block_memory.proofs.WriterLemmas.{five_at, lent, map_twice}
use Rattle.std.proofs.lemmas.List.Elements.{All-map}

-- a span ends before the region, or lies in it
pub aside : (front n : ℕ) (s : Span) → IsAtHome front n s → (s.place + s.len ≤ front) ⊎ (front ≤ s.place)
aside front n s home = grind arith

-- what lies at a number
value_at-slots : (front : ℕ) (words : List ℤ) (spans : List (Option Span)) (n : ℕ)
    → value_at (slots_from front words spans) n ≡ block_of_span front words (value_at spans n)
value_at-slots front words spans n = get_or-map (block_of_span front words) spans n None

-- the block of a span
abbrev span_block : ℕ → List ℤ → Span → PlacedBlock
span_block front words s =
    record {
      owner = s.owner;
      place = s.place - front;
      len = covered_in front s;
      words = take s.len (drop s.place words);
    }

value_at-there : (front : ℕ) (words : List ℤ) (spans : List (Option Span)) (n : ℕ) (s : Span)
    → value_at spans n ≡ Some s → value_at (slots_from front words spans) n ≡ Some (span_block front words s)
value_at-there front words spans n s there = grind (arith, value_at-slots front words spans n)

-- a span in the region covers its words
Covers-span : (front : ℕ) (words : List ℤ) (spans : List (Option Span)) {n word : ℕ} (s : Span) → value_at spans n ≡
    Some s → front ≤ s.place → s.place ≤ front + word → front + word < s.place + s.len → Covers (slots_from front
    words spans) n word
Covers-span front words spans {n} s there region from below =
    grind (arith, span_block front words s, value_at-there front words spans n s there)

-- what a number has after a span was written
span_at : (spans : List (Option Span)) (n k : ℕ) (s t : Span) → n < length spans
    → value_at (slice_set spans n (Some s)) k ≡ Some t → (k ≡ n) × (t ≡ s) ⊎ ((k ≢ n) × (value_at spans k ≡ Some t))
span_at spans n k s t within there = grind (arith, same_some, slice_set, value_at-set_same, value_at-set_other)

abbrev pub layout_of : ℕ → List (Option PlacedBlock) → Layout
layout_of size slots = record { size = size; slots = slots }

-- what is known of a number's block by its span
pub words_of-span : (front : ℕ) (words : List ℤ) (spans : List (Option Span)) (n : ℕ) (s : Span)
    → value_at spans n ≡ Some s → words_at (slots_from front words spans) n ≡ take s.len (drop s.place words)
words_of-span front words spans n s there = ap words_of (value_at-there front words spans n s there)

pub length-words_of-span : {front : ℕ} {words : List ℤ} {starts : List ℕ} {spans : List (Option Span)}
    {size room starts_room : ℕ} (n : ℕ) (s : Span) → AreBlocks front words starts spans size room starts_room
    → value_at spans n ≡ Some s → length (words_at (slots_from front words spans) n) ≡ s.len
length-words_of-span {front} {words} {spans = spans} n s b there =
    ap length (words_of-span front words spans n s there) ∙ length-part words s.place s.len (b.within n s there)

pub covered_by_span : (front : ℕ) (words : List ℤ) (spans : List (Option Span)) (n : ℕ) (s : Span)
    → value_at spans n ≡ Some s → covered_at (slots_from front words spans) n ≡ covered_in front s
covered_by_span front words spans n s there = grind (arith, value_at-there front words spans n s there)

-- the place of a block is that of its span
pub place_by_span : (front : ℕ) (words : List ℤ) (spans : List (Option Span)) (n : ℕ) (s : Span)
    → value_at spans n ≡ Some s → place_at (slots_from front words spans) n ≡ s.place - front
place_by_span front words spans n s there = ap place_of (value_at-there front words spans n s there)

-- a block that is written at a span and marked, in words that were made longer for it and that no other block covers:
-- it covers `len` words of the region from `place` on
record IsWrite (front : ℕ) (words long words' : List ℤ) (starts starts' : List ℕ) (spans : List (Option Span)) (n : ℕ)
    (s : Span) (place len : ℕ) (new : List ℤ) (size room starts_room : ℕ) : Type 0 where
  are_blocks : AreBlocks front words starts spans size room starts_room
  lengthened : IsLengthened words long (s.place + s.len)
  written : IsWritten long words' s.place new
  home : IsAtHome front n s
  here : s.place - front ≡ place
  covers : covered_in front s ≡ len
  unmarked : s.place < front → starts' ≡ starts
  marked : front ≤ s.place → IsMarked starts starts' place s.len n
  length_new : s.len ≡ length new
  fits : s.place + s.len ≤ front + size
  clear : IsClear (slots_from front words spans) n place len
  in_range : n < length spans

-- the blocks after one number got another block, or its block changed
pub record IsPut (l : Layout) (words : List ℤ) (starts : List ℕ) (spans : List (Option Span))
    (size room starts_room n : ℕ) (o : Option PlacedBlock) : Type 0 where
  pub are_blocks : AreBlocks (length spans) words starts spans size room starts_room
  pub layout : layout_of size (slots_from (length spans) words spans) ≡ with_slot l n o

module _ {front : ℕ} {words long words' : List ℤ} {starts starts' : List ℕ} {spans : List (Option Span)} {n : ℕ}
    {s : Span} {place len : ℕ} {new : List ℤ} {size room starts_room : ℕ}
    (w : IsWrite front words long words' starts starts' spans n s place len new size room starts_room) where
  -- another span has no word at the places that the block was written to
  apart : (k word : ℕ) (t : Span) → k ≢ n → value_at spans k ≡ Some t → t.place ≤ word → word < t.place + t.len
      → s.place ≤ word → word < s.place + s.len → ⊥
  apart k word t other there from below from' below' =
      let clear = w.clear k (word - front) in
      let covers = Covers-span front words spans {n = k} {word = word - front} t there in
      grind arith

  unmarked : (k : ℕ) (t : Span) → k ≢ n → value_at spans k ≡ Some t → front ≤ t.place → 0 < t.len
      → slice_index starts' (t.place - front) ≡ k
  unmarked k t other there region some = grind (arith, apart k t.place t other there)

  reached_then : (k : ℕ) (t : Span) → value_at spans k ≡ Some t → front ≤ t.place → 0 < t.len
      → t.place - front < length starts'
  reached_then k t there region some = grind arith

  untouched : (k : ℕ) (t : Span) → k ≢ n → value_at spans k ≡ Some t
      → take t.len (drop t.place words') ≡ take t.len (drop t.place words)
  untouched k t other there =
      let inside = w.are_blocks.within k t there in
      same_part words' words t.place t.len (pos 0) (grind arith) inside
      (λ i h. let kept = w.lengthened.kept (t.place + i) (pos 0) (omega arith) in
      let no = apart k (t.place + i) t other there (omega arith) (omega arith) in
      grind (arith, w.written.below (t.place + i) (pos 0), w.written.behind (t.place + i) (pos 0)))

  other_span : (k : ℕ) → k ≢ n → (o : Option Span) → value_at spans k ≡ o
      → block_of_span front words' o ≡ block_of_span front words o
  other_span k other None there = refl
  other_span k other (Some t) there = grind (arith, untouched)

  abbrev put_block : Option PlacedBlock
  put_block = Some (record { owner = s.owner; place = place; len = len; words = new })

  here_then : block_of_span front words' (Some s) ≡ put_block
  here_then = grind arith

  slots_then : slots_from front words' (slice_set spans n (Some s))
      ≡ slice_set (slots_from front words spans) n put_block
  slots_then =
      ext_get_or None (slots_from front words' (slice_set spans n (Some s)))
      (slice_set (slots_from front words spans) n put_block)
      (grind (arith, length-map, slice_set, length-set))
      (λ k h. value_at-slots front words' (slice_set spans n (Some s)) k ∙ elim (cases_eq k n) [
        | inl same ↦ grind (arith, length-map, value_at-set_same, here_then)
        | inr other ↦ grind (arith, value_at-set_other, other_span, value_at-slots)
      ])

  is_put : {l : Layout} {spans' : List (Option Span)} {o : Option PlacedBlock}
      → layout_of size (slots_from front words spans) ≡ l → front ≡ length spans → spans' ≡ slice_set spans n (Some s)
      → o ≡ put_block → IsPut l words' starts' spans' size room starts_room n o
  is_put view is_front is block =
      record {
        are_blocks =
            rw (is, length-set spans n (Some s), ← is_front) (grind (arith, span_at, reached_then, unmarked));
        layout = rw (is, length-set spans n (Some s), ← is_front, ← view, block) (ap (layout_of size) slots_then);
      }

weak : {words : List ℤ} {starts : List ℕ} {spans : List (Option Span)}
    {front size room starts_room room' starts_room' : ℕ} → AreBlocks front words starts spans size room starts_room
    → room ≤ room' → starts_room ≤ starts_room' → AreBlocks front words starts spans size room' starts_room'
weak b more starts_more = grind arith

-- a block that covers words lies in the region, with all its words
pub in_region : {front : ℕ} {words : List ℤ} {starts : List ℕ} {spans : List (Option Span)}
    {size room starts_room : ℕ} (n : ℕ) (s : Span) → AreBlocks front words starts spans size room starts_room
    → value_at spans n ≡ Some s → 1 ≤ covered_at (slots_from front words spans) n
    → (front ≤ s.place) × (covered_at (slots_from front words spans) n ≡ s.len)
in_region {front} {words} {spans} n s b there some = grind (arith, covered_by_span front words spans n s there)

-- a block's words are those of its span
words_of_span : (front : ℕ) (words : List ℤ) (o : Option Span)
    → words_of (block_of_span front words o) ≡ words_in words (span_of o)
words_of_span front words None = refl
words_of_span front words (Some s) = refl

words_by_span : (front : ℕ) (words : List ℤ) (spans : List (Option Span)) (n : ℕ)
    → words_at (slots_from front words spans) n ≡ words_in words (span_in spans n)
words_by_span front words spans n = search (rules, value_at-slots, words_of_span)

-- what lies in words that were made longer
pub record IsLonger (l : Layout) (words : List ℤ) (starts : List ℕ) (spans : List (Option Span))
    (size room starts_room : ℕ) : Type 0 where
  pub are_blocks : AreBlocks (length spans) words starts spans size room starts_room
  pub view : layout_of size (slots_from (length spans) words spans) ≡ l

-- the blocks of a memory
module _ {l : Layout} {words : List ℤ} {starts : List ℕ} {spans : List (Option Span)} {size room starts_room : ℕ}
    (b : AreBlocks (length spans) words starts spans size room starts_room)
    (view : layout_of size (slots_from (length spans) words spans) ≡ l) where
  abbrev slots : List (Option PlacedBlock)
  slots = slots_from (length spans) words spans

  -- a block that is put into the region, in words that were made longer and that no other block covers
  pub after_put : {front : ℕ} {long old words' : List ℤ} {starts' : List ℕ} {spans' : List (Option Span)}
      {n room' starts_room' : ℕ} → front ≡ length spans → old ≡ long → room ≤ room' → starts_room ≤ starts_room'
      → n < length spans → (owner : ℕ) {place len : ℕ} {new : List ℤ} → IsLengthened words long (front + place + len)
      → IsWritten old words' (front + place) new → len ≡ length new → IsMarked starts starts' place len n
      → IsClear l.slots n place len → place + len ≤ l.size
      → spans' ≡ slice_set spans n (Some (record { owner = owner; place = front + place; len = len }))
      → IsPut l words' starts' spans' size room' starts_room' n
      (Some (record { owner = owner; place = place; len = len; words = new }))
  after_put {long = long} {words' = words'} {starts' = starts'} {n = n} {room'} {starts_room'} is_front same more
      starts_more in_range owner {place} {len} {new} w written long_new marked clear fits is =
      let write : IsWrite (length spans) words long words' starts starts' spans n
      (record { owner = owner; place = length spans + place; len = len }) place len new size room' starts_room' =
      record {
        are_blocks = weak b more starts_more;
        lengthened = rw is_front at w;
        written = rw (same, is_front) at written;
        home = inr (omega arith);
        here = omega arith;
        covers = omega arith;
        unmarked = λ own. absurd (omega arith);
        marked = λ region. marked;
        length_new = long_new;
        fits = let inside = rw (← view) at fits in omega arith;
        clear = rw (← view) at clear;
        in_range = in_range;
      } in
      is_put write view refl (rw is_front at is) refl

  -- a block of one word that is put, in the word of its number
  pub after_word : {long old words' : List ℤ} {spans' : List (Option Span)} {n room' : ℕ} → old ≡ long → room ≤ room'
      → n < length spans → (owner : ℕ) {new : List ℤ} → IsLengthened words long (n + 1) → IsWritten old words' n new
      → length new ≡ 1 → spans' ≡ slice_set spans n (Some (record { owner = owner; place = n; len = 1 }))
      → IsPut l words' starts spans' size room' starts_room n
      (Some (record { owner = owner; place = 0; len = 0; words = new }))
  after_word {long = long} {words' = words'} {n = n} {room'} same more in_range owner {new} w written one is =
      let write : IsWrite (length spans) words long words' starts starts spans n
      (record { owner = owner; place = n; len = 1 }) 0 0 new size room' starts_room =
      record {
        are_blocks = weak b more (omega arith);
        lengthened = w;
        written = rw same at written;
        home = inl (refl, refl, in_range);
        here = omega arith;
        covers = omega arith;
        unmarked = λ own. refl;
        marked = λ region. absurd (omega arith);
        length_new = sym one;
        fits = omega arith;
        clear = λ other word from below covers. absurd (omega arith);
        in_range = in_range;
      } in
      is_put write view refl is refl

  -- a block that is moved, with its words
  pub after_move : {front : ℕ} {long old words' : List ℤ} {starts' : List ℕ} {spans' : List (Option Span)}
      {n to room' starts_room' : ℕ} {s : Span} → front ≡ length spans → old ≡ long → room ≤ room'
      → starts_room ≤ starts_room' → value_at spans n ≡ Some s → 1 ≤ covered_at l.slots n
      → IsLengthened words long (front + to + s.len)
      → IsWritten old words' (front + to) (take s.len (drop s.place old)) → IsMarked starts starts' to s.len n
      → IsClear l.slots n to (covered_at l.slots n) → to + covered_at l.slots n ≤ l.size
      → spans' ≡ slice_set spans n (Some (record { owner = s.owner; place = front + to; len = s.len }))
      → IsPut l words' starts' spans' size room' starts_room' n (block_at_place to (value_at l.slots n))
  after_move {long = long} {old} {n = n} {to} {s = s} is_front same more starts_more there some w written marked clear
      fits is =
      let inside = b.within n s there in
      let region = in_region n s b there (rw (← view) at some) in
      let covers : covered_at l.slots n ≡ s.len = rw (← view) region.1 in
      let kept : take s.len (drop s.place old) ≡ take s.len (drop s.place words) =
      rw same (same_part long words s.place s.len (pos 0) (grind arith) inside
      (λ i h. w.kept (s.place + i) (pos 0) (omega arith))) in
      let block : block_at_place to (value_at l.slots n) ≡
      Some (record { owner = s.owner; place = to; len = s.len; words = take s.len (drop s.place words) }) =
      rw (← view) (grind (arith, value_at-there (length spans) words spans n s there)) in
      rw block (after_put is_front same more starts_more (IsSome-in_range spans n (ap is_some there)) s.owner w
      (rw kept at written) (sym (length-part words s.place s.len inside)) marked (rw covers at clear)
      (rw covers at fits) is)

  -- a block that is written over, in words that no other block covers
  pub after_rewrite : {old words' : List ℤ} {n : ℕ} {s : Span} {new : List ℤ} → value_at spans n ≡ Some s → old ≡ words
      → IsWritten old words' s.place new → s.len ≡ length new
      → IsClear l.slots n (place_at l.slots n) (covered_at l.slots n)
      → IsPut l words' starts spans size room starts_room n (block_with_words new (value_at l.slots n))
  after_rewrite {words' = words'} {n} {s} {new} there same written long_new clear =
      let is = value_at-there (length spans) words spans n s there in
      let inside = b.within n s there in
      let write : IsWrite (length spans) words words words' starts starts spans n s (s.place - length spans)
      (covered_in (length spans) s) new size room starts_room =
      record {
        are_blocks = b;
        lengthened = grind arith;
        written = rw same at written;
        home = b.home n s there;
        here = refl;
        covers = refl;
        unmarked = λ own. refl;
        marked = grind arith;
        length_new = long_new;
        fits = omega (arith, b.few);
        clear = rw is at (rw (← view) at clear);
        in_range = IsSome-in_range spans n (ap is_some there);
      } in
      is_put write view refl (grind (arith, slice_set, set-get_or)) (grind arith)

  -- a block that goes
  pub after_remove : {spans' : List (Option Span)} (n : ℕ) → n < length spans → spans' ≡ slice_set spans n None
      → IsPut l words starts spans' size room starts_room n None
  after_remove n in_range is =
      record {
        are_blocks = rw is (search (rules, length-set));
        layout = rw (is, length-set, ← view)
            (ap (layout_of size) (map-set (block_of_span (length spans) words) spans n None));
      }

  pub longer : {words' : List ℤ} {room' len : ℕ} → IsLengthened words words' len → len ≤ length spans + size
      → room ≤ room' → IsLonger l words' starts spans size room' starts_room
  longer {words' = words'} w fits more =
      record {
        are_blocks = grind arith;
        view = ap (layout_of size) (ext_get_or None (slots_from (length spans) words' spans) slots
            (grind (arith, length-map))
            (λ n h. grind (arith, value_at-slots, kept_span n (value_at spans n) refl))) ∙ view;
      }
    where
      kept_span : (n : ℕ) (o : Option Span) → value_at spans n ≡ o
          → block_of_span (length spans) words' o ≡ block_of_span (length spans) words o
      kept_span n None there = refl
      kept_span n (Some t) there =
          let inside = b.within n t there in
          let same = same_part words' words t.place t.len (pos 0) (grind arith) inside
          (λ i h. w.kept (t.place + i) (pos 0) (omega arith)) in grind arith

  -- the words of a block are those of its span, also of those that are lent
  pub block_by_span : {old : List ℤ} (n : ℕ) {s : Span} → value_at spans n ≡ Some s → old ≡ words
      → take s.len (drop s.place old) ≡ words_at l.slots n
  block_by_span n {s} there same = rw (same, ← view) (sym (words_of-span (length spans) words spans n s there))

  pub lent_by_span : {old : List ℤ} → old ≡ words → (lent : List ℕ)
      → map (λ n. words_in old (span_in spans n)) lent ≡ map (words_at l.slots) lent
  lent_by_span same lent =
      rw (same, ← view) (λ i. map (λ n. sym (words_by_span (length spans) words spans n) i) lent)

  -- a span lies apart from words of the region of which its block covers none
  span_apart : (n place len : ℕ) → ((word : ℕ) → place ≤ word → word < place + len → Covers slots n word → ⊥)
      → IsApart (length words) (length spans + place) len (span_in spans n)
  span_apart n place len bare = by_span (value_at spans n) refl
    where
      by_span : (o : Option Span) → value_at spans n ≡ o
          → IsApart (length words) (length spans + place) len (span_of o)
      by_span None there = grind arith
      by_span (Some t) there =
          let at_place = bare place in
          let at_span = bare (t.place - length spans) in
          let covers = Covers-span (length spans) words spans {n = n} {word = place} t there in
          let starts = Covers-span (length spans) words spans {n = n} {word = t.place - length spans} t there in
          grind (arith, b.home n t there, b.within n t there)

  -- the spans that are lent lie apart from words that no block covers
  pub lent_apart : {front : ℕ} {old : List ℤ} {place len : ℕ} → front ≡ length spans → old ≡ words
      → IsBare l.slots place len → (lent : List ℕ)
      → All (λ id. IsApart (length old) (front + place) len (span_in spans id)) lent
  lent_apart {place = place} {len} is_front same bare lent =
      rw (same, is_front) (λ k d within. span_apart (slice_index_or lent k d) place len
      (rw (← view) at bare (slice_index_or lent k d)))

  -- a span lies apart from that of another number, whose words no other block covers
  pub other_apart : {n : ℕ} {s : Span} → value_at spans n ≡ Some s
      → IsClear l.slots n (place_at l.slots n) (covered_at l.slots n) → (m : ℕ) → m ≢ n
      → IsApart (length words) s.place s.len (span_in spans m)
  other_apart {n} {s} there clear m other = by_span (value_at spans m) refl
    where
      own_clear : IsClear slots n (s.place - length spans) (covered_in (length spans) s)
      own_clear = rw (value_at-there (length spans) words spans n s there) at (rw (← view) at clear)

      by_span : (o : Option Span) → value_at spans m ≡ o → IsApart (length words) s.place s.len (span_of o)
      by_span None is = let inside = b.within n s there in grind arith
      by_span (Some t) is =
          let at_place = own_clear m (s.place - length spans) in
          let at_span = own_clear m (t.place - length spans) in
          let covers = Covers-span (length spans) words spans {n = m} {word = s.place - length spans} t is in
          let starts = Covers-span (length spans) words spans {n = m} {word = t.place - length spans} t is in
          grind (arith, b.home m t is, b.home n s there, b.within m t is)

-- no block at first
pub slots_from-empty : (front : ℕ) (words : List ℤ) (n : ℕ)
    → slots_from front words (replicate n None) ≡ replicate n None
slots_from-empty front words zero = refl
slots_from-empty front words (suc n) = grind (arith, slots_from-empty front words n)

pub are_none : (front : ℕ) (words : List ℤ) (starts : List ℕ) (spans : List (Option Span))
    (size words_capacity starts_capacity most : ℕ) → spans ≡ replicate most None → length words ≡ 0
    → front + size ≤ words_capacity → size ≤ starts_capacity
    → AreBlocks front words starts spans size words_capacity starts_capacity
are_none front words starts spans size words_capacity starts_capacity most is none words_fit starts_fit =
    rw is (grind (arith, value_at-none {T = Span}))

-- what a block that begins at a place says of its span
record BeginsBySpan (front : ℕ) (starts : List ℕ) (spans : List (Option Span)) (n place : ℕ) : Type 0 where
  span : Span
  there : value_at spans n ≡ Some span
  here : span.place ≡ front + place
  some : 0 < span.len
  start : slice_index starts place ≡ n
  reached : place < length starts

begins_by-span : {front : ℕ} {words : List ℤ} {starts : List ℕ} {spans : List (Option Span)}
    {n place size room starts_room : ℕ} → AreBlocks front words starts spans size room starts_room
    → Begins (slots_from front words spans) n place → BeginsBySpan front starts spans n place
begins_by-span {front} {words} {starts} {spans} {n} {place} a b = by_span (value_at spans n) refl
  where
    by_span : (o : Option Span) → value_at spans n ≡ o → BeginsBySpan front starts spans n place
    by_span None there = absurd (grind (arith, value_at-slots front words spans n))
    by_span (Some s) there =
        let is = value_at-there front words spans n s there in
        let here : s.place ≡ front + place = grind (arith, a.home n s there) in
        let some : 0 < s.len = grind (arith, a.home n s there) in
        let at : s.place - front ≡ place = omega arith in
        record {
          span = s;
          there = there;
          here = here;
          some = some;
          start = rw at at (a.started n s there (omega arith) some);
          reached = rw at at (a.reached n s there (omega arith) some);
        }

module _ {l : Layout} {words : List ℤ} {starts : List ℕ} {spans : List (Option Span)} {place size room starts_room : ℕ}
    (b : AreBlocks (length spans) words starts spans size room starts_room)
    (view : layout_of size (slots_from (length spans) words spans) ≡ l) where
  -- if the number at a place has no block with words that begins there, no number has
  pub none_begins : (m : ℕ) → place < length starts → m ≡ slice_index_or starts place m → ((s : Span)
      → value_at spans m ≡ Some s → s.place ≡ length spans + place → 0 < s.len → ⊥) → (n : ℕ)
      → Begins l.slots n place → ⊥
  none_begins m inside read none n begins =
      let span = begins_by-span b (rw (← view) at begins) in
      let is = get_or_default starts place m 0 inside in
      none span.span (rw (read ∙ is ∙ span.start) span.there) span.here span.some

  -- no block with words begins past the highest word at which one began so far
  pub none_past : length starts ≤ place → (n : ℕ) → Begins l.slots n place → ⊥
  none_past past n begins =
      let reached = (begins_by-span b (rw (← view) at begins)).reached in omega arith

  pub begins-span : (n : ℕ) (s : Span) → value_at spans n ≡ Some s → s.place ≡ length spans + place → 0 < s.len
      → Begins l.slots n place
  begins-span n s there here some =
      rw (← view) (record {
        block = span_block (length spans) words s;
        there = value_at-there (length spans) words spans n s there;
        here = omega arith;
        some = omega arith;
      })

-- ---- what proofs of functions use

pub ruleset for_remove = (aside, length-words_of-span, place_by_span, covered_by_span)

pub ruleset for_rewrite = (items_after_write, after_rewrite, length-words_of-span)

pub ruleset for_rewrite_with = (items_after_write, length-part, after_rewrite, other_apart)

pub ruleset for_put = (length-set, items_after_write, after_put, after_move, in_region)

pub ruleset for_put_word = (length-set, items_after_write, after_word)

pub ruleset for_written_word = (length-map, lent)

pub ruleset for_write_lent = (length-map, All-map, five_at, map_twice)
