-- Lemmas on moving blocks together: what holds while the blocks before a place were moved and the others not yet.
use Rattle.std.proofs.Common.{◌≡◌, ◌≢◌, ◌⊎◌, ℕ, zero, suc, ◌+◌, ◌<◌, ◌≤◌, List, [], ◌∷◌, length, slice_set}
use Rattle.std.proofs.Common.{Option, Some, None, is_some, cond, sum_by, inl, inr, refl, sym, ap, subst, ◌∙◌, arith}
use Rattle.std.specs.Prelude.{nat_le}
use Rattle.std.proofs.lemmas.Bool.{cases_lt}
use Rattle.std.proofs.lemmas.List.Sums.{sum_by-cons, sum_by-set, get_or-le-sum_by}
use Rattle.std.proofs.Math.Seq.{map-set_same}
use Rattle.block_memory.specs.Table.{value_at}
use Rattle.block_memory.specs.Layout.{PlacedBlock, Layout, Covers, Begins, IsClear, content_of, with_slot}
use Rattle.block_memory.specs.Layout.{covered_of, covered_at, covered_words, layout_after_move}
use Rattle.block_memory.specs.Region.{AreApart, AreWithin, IsCovered, ArePacked}
use Rattle.block_memory.proofs.Lists.{IsSome-in_range, same_some}
use Rattle.block_memory.proofs.LayoutLemmas.{value_at-set_same, value_at-set_other, Covers-set_here, Covers-set_other}
use Rattle.block_memory.proofs.LayoutLemmas.{Covers-by, AreApart-set, AreWithin-set}

-- how many words a block has, if it lies at the place or after it
abbrev pub words_from : ℕ → Option PlacedBlock → ℕ
words_from place None = 0
words_from place (Some p) = cond (nat_le place p.place) p.len 0

-- the words of all blocks there
abbrev pub rest : ℕ → List (Option PlacedBlock) → ℕ
rest place slots = sum_by (words_from place) slots

-- the first words are packed, and the blocks from a place on lie as before
pub record IsPacking (before now : Layout) (packed place used : ℕ) : Type 0 where
  pub size : now.size ≡ before.size
  pub content : content_of now.slots ≡ content_of before.slots
  pub apart : AreApart now.slots
  pub within : AreWithin now.slots now.size
  pub front : (word : ℕ) → word < packed → IsCovered now.slots word
  pub sides : (n : ℕ) (p : PlacedBlock) → value_at now.slots n ≡ Some p → 0 < p.len
      → (p.place + p.len ≤ packed) ⊎ (place ≤ p.place)
  pub order : packed ≤ place
  pub all : packed + rest place now.slots ≡ used
  pub total : covered_words now.slots ≡ used

-- sums of what is alike at each number
same_sums : {X : Type 0} (f g : Option X → ℕ) (xs : List (Option X))
    → ((k : ℕ) → k < length xs → f (value_at xs k) ≡ g (value_at xs k)) → sum_by f xs ≡ sum_by g xs
same_sums f g [] h = refl
same_sums f g (x ∷ xs) h =
    sum_by-cons f x xs
    ∙ ((ap (λ n. n + sum_by f xs) (h zero (omega arith))
    ∙ ap (λ n. g x + n) (same_sums f g xs (λ k below. h (suc k) (omega arith))))
    ∙ sym (sum_by-cons g x xs))

no_sum : {X : Type 0} (f : Option X → ℕ) (xs : List (Option X)) → ((k : ℕ) → k < length xs → f (value_at xs k) ≡ 0)
    → sum_by f xs ≡ 0
no_sum f [] h = refl
no_sum f (x ∷ xs) h =
    let first = h zero (omega arith) in
    let others = no_sum f xs (λ k below. h (suc k) (omega arith)) in
    omega (arith, sum_by-cons f x xs, first, others)

words_from-behind : (place : ℕ) (p : PlacedBlock) → place ≤ p.place → words_from place (Some p) ≡ p.len
words_from-behind place p h = grind arith

words_from-before : (place : ℕ) (p : PlacedBlock) → p.place < place → words_from place (Some p) ≡ 0
words_from-before place p h = grind arith

words_from-none : (place : ℕ) (o : Option PlacedBlock)
    → ((p : PlacedBlock) → o ≡ Some p → place ≤ p.place → p.len ≡ 0) → words_from place o ≡ 0
words_from-none place o h = grind (arith, words_from-before, words_from-behind)

-- a block counts from two places alike, if none with words lies between them
words_from-same : (place next : ℕ) (o : Option PlacedBlock) → place ≤ next
    → ((p : PlacedBlock) → o ≡ Some p → 0 < p.len → place ≤ p.place → next ≤ p.place)
    → words_from place o ≡ words_from next o
words_from-same place next o order h = grind (arith, words_from-behind, words_from-before)

-- at first all blocks lie as before
pub IsPacking-start : (layout : Layout) (used : ℕ) → AreApart layout.slots → AreWithin layout.slots layout.size
    → used ≡ covered_words layout.slots → IsPacking layout layout 0 0 used
IsPacking-start layout used apart within counted = grind arith

-- while words are missing, the place is in the region
pub IsPacking-inside : {before now : Layout} {packed place used : ℕ} → IsPacking before now packed place used → packed
    < used → place < now.size
IsPacking-inside {now} {place} i missing =
    elim (cases_lt place now.size) [
      | inl inside ↦ inside
      | inr past ↦ absurd (
          let none =
          no_sum (words_from place) now.slots
          (λ k h. words_from-none place (value_at now.slots k)
          (λ p there behind. let fits = (i.within k p there).0 in omega arith)) in
          let all = i.all in omega (arith, all, none))
    ]

-- no block begins at the place
pub IsPacking-skip : {before now : Layout} {packed place used : ℕ} → IsPacking before now packed place used → ((n : ℕ)
    → Begins now.slots n place → ⊥) → IsPacking before now packed (place + 1) used
IsPacking-skip {now} {place} i none =
    record {
      size = i.size;
      content = i.content;
      apart = i.apart;
      within = i.within;
      front = i.front;
      sides = λ n p there some.
          let sides = i.sides n p there some in let next = further n p there some in grind arith;
      order = let o = i.order in omega arith;
      all = let same =
          same_sums (words_from place) (words_from (place + 1)) now.slots
          (λ k h. words_from-same place (place + 1) (value_at now.slots k) (omega arith)
          (λ p there some behind. further k p there some behind)) in let all = i.all in omega (arith, all, same);
      total = i.total;
    }
  where
    further : (n : ℕ) (p : PlacedBlock) → value_at now.slots n ≡ Some p → 0 < p.len → place ≤ p.place
        → place + 1 ≤ p.place
    further n p there some behind =
        let begins = λ (here : p.place ≡ place).
        none n (record { block = p; there = there; here = here; some = some }) in grind arith

-- the block that begins at the place is to be moved
module _ (before now : Layout) (packed place used n : ℕ) (p : PlacedBlock)
    (i : IsPacking before now packed place used) (there : value_at now.slots n ≡ Some p) (here : p.place ≡ place)
    (some : 0 < p.len) where
  -- every other block after the place lies after this one
  beyond : (k : ℕ) (q : PlacedBlock) → k ≢ n → value_at now.slots k ≡ Some q → 0 < q.len → place ≤ q.place
      → place + p.len ≤ q.place
  beyond k q other found words behind =
      let apart = λ (between : q.place < place + p.len). i.apart k n q.place
      (record { block = q; there = found; from = omega arith; below = omega arith })
      (record { block = p; there = there; from = omega arith; below = omega arith }) in
      grind arith

  -- no other block covers a word that it then covers
  pub slide_clear : IsClear now.slots n packed p.len
  slide_clear k word from below c = grind (arith, beyond)

  abbrev slid_block : PlacedBlock
  slid_block = record { owner = p.owner; place = packed; len = p.len; words = p.words }

  in_range : n < length now.slots
  in_range = IsSome-in_range now.slots n (ap is_some there)

  slid_content : content_of (slice_set now.slots n (Some slid_block)) ≡ content_of now.slots
  slid_content = grind (arith, map-set_same, slid_block)

  slid_front : (word : ℕ) → word < packed + p.len → IsCovered (slice_set now.slots n (Some slid_block)) word
  slid_front word h =
      elim (cases_lt word packed) [
        | inr new ↦ record { number = n; covers = Covers-set_here now.slots slid_block in_range new h }
        | inl old ↦
            let c = i.front word old in
            let differs : c.number ≢ n = λ same.
            let by = Covers-by p there (subst (λ (k : ℕ). Covers now.slots k word) same c.covers) in
            let order = i.order in omega (arith, by) in
            record { number = c.number; covers = Covers-set_other n (Some slid_block) differs c.covers }
      ]

  slid_sides : (k : ℕ) (q : PlacedBlock) → value_at (slice_set now.slots n (Some slid_block)) k ≡ Some q
      → 0 < q.len → (q.place + q.len ≤ packed + p.len) ⊎ (place + p.len ≤ q.place)
  slid_sides k q found words =
      grind (arith, slid_block, same_some, slice_set, value_at-set_same, in_range, value_at-set_other, beyond)

  -- the other blocks count alike from the end of this one on
  others_alike : sum_by (words_from place) (slice_set now.slots n None) ≡ sum_by (words_from (place + p.len))
      (slice_set now.slots n None)
  others_alike =
      same_sums (words_from place) (words_from (place + p.len)) (slice_set now.slots n None)
      (λ k h. grind (arith, value_at-set_same, in_range, value_at-set_other, words_from-same, beyond, words_from))

  slid_rest : rest (place + p.len) (slice_set now.slots n (Some slid_block)) + p.len ≡ rest place
      now.slots
  slid_rest =
      grind (arith, sum_by-set, words_from, in_range, slid_block, words_from-behind, words_from-before, others_alike)

  pub IsPacking-slide : IsPacking before (with_slot now n (Some slid_block)) (packed + p.len)
      (place + p.len) used
  IsPacking-slide =
      record {
        size = i.size;
        content = slid_content ∙ i.content;
        apart = AreApart-set now.slots n slid_block in_range i.apart slide_clear;
        within =
            AreWithin-set now.slots now.size n slid_block in_range i.within
            (let o = i.order in let w = i.within n p there in (omega (arith, w.0), w.1));
        front = slid_front;
        sides = slid_sides;
        order = let o = i.order in omega arith;
        all = let all = i.all in let r = slid_rest in omega (arith, all, r);
        total =
            grind (arith, sum_by-set, slid_block, in_range);
      }

-- the block that begins at the place has moved down to the packed ones
pub IsPacking-moved : {before old new : Layout} {packed place used n : ℕ} (len : ℕ) → IsPacking before old packed
    place used → Begins old.slots n place → new ≡ layout_after_move old n packed → len ≡ covered_at old.slots n →
    IsPacking before new (packed + len) (place + len) used
IsPacking-moved {before} {old} {packed} {place} {used} {n} len i b moved long =
    grind (arith, IsPacking-slide before old packed place used n b.block i b.there b.here b.some)

-- it covers a word at least
pub begins-some : {slots : List (Option PlacedBlock)} {n place : ℕ} → Begins slots n place → 1 ≤ covered_at slots n
begins-some b = grind arith

-- it lies in the region
pub IsPacking-block : {before now : Layout} {packed place used n : ℕ} → IsPacking before now packed place used
    → Begins now.slots n place → (1 ≤ covered_at now.slots n) × (place + covered_at now.slots n ≤ now.size)
IsPacking-block {n = n} i b =
    let inside = i.within n b.block b.there in rw b.there (b.some, omega (arith, inside.0, b.here))

-- its words and those that moved before are within the size
pub moved_within : {before now : Layout} {packed place used n : ℕ} (moved words : ℕ) → IsPacking before now packed
    place used → Begins now.slots n place → moved ≤ packed → words ≤ covered_at now.slots n → moved + words ≤ now.size
moved_within {n} moved words i b few less =
    let long = ap covered_of b.there in
    omega (arith, i.order, (i.within n b.block b.there).0, b.here, long)

-- at the end all blocks are packed
pub ArePacked-end : (before now : Layout) (packed place used : ℕ) → IsPacking before now packed place used
    → used ≤ packed → ArePacked now.slots used
ArePacked-end before now packed place used i done =
    let all = i.all in
    record {
      apart = i.apart;
      front = λ word h. i.front word (omega arith);
      behind = λ n word c. elim (i.sides n c.block c.there (let f = c.from in let b = c.below in omega arith)) [
        | inl front ↦ let b = c.below in omega arith
        | inr behind ↦ absurd (
            let f = c.from in let b = c.below in
            let part =
            get_or-le-sum_by (words_from place) now.slots n None
            (IsSome-in_range now.slots n (ap is_some c.there)) in
            let here : words_from place (value_at now.slots n) ≡ c.block.len =
            grind arith in
            omega (arith, all, part, here))
      ];
    }
