-- Lemmas on the blocks and the holes of a region: what a block that comes, goes or moves leaves.
use Rattle.std.proofs.Common.{◌≡◌, ℕ, ℤ, zero, suc, ◌+◌, ◌-◌, ◌<◌, ◌≤◌, true, false, List, [], ◌∷◌, length, map}
use Rattle.std.proofs.Common.{slice_set, Option, Some, None, is_some, IsSome, inl, inr, refl, sym, ap, subst, ◌∙◌}
use Rattle.std.proofs.Common.{replicate, arith, Bool, ◌≢◌, ◌⊎◌}
use Rattle.std.proofs.lemmas.List.{map-set, length-map, length-replicate, get_or-replicate}
use Rattle.std.proofs.lemmas.List.Folds.{sum_by-replicate}
use Rattle.std.proofs.lemmas.List.Sums.{sum_by-cons, sum_by-set, get_or-le-sum_by}
use Rattle.holes.specs.FreeWords.{Region, is_free, NoneFree, set_range, given_to, free_from, widest}
use Rattle.block_memory.specs.Content.{no_blocks, IsLive, used_words, with_block, without_block}
use Rattle.block_memory.specs.Content.{words_of as content_words_of, words_at as content_words_at, Content}
use Rattle.block_memory.specs.Content.{owner_at as content_owner_at}
use Rattle.block_memory.specs.Placing.{IsPlacedWith}
use Rattle.block_memory.specs.Table.{value_at}
use Rattle.block_memory.specs.Layout.{PlacedBlock, Layout, Covers, IsBare, block_of, content_of, place_of, words_of}
use Rattle.block_memory.specs.Layout.{covered_of, covered_at, covered_words, place_at, words_at, with_slot, IsClear}
use Rattle.block_memory.specs.Layout.{layout_after_rewrite}
use Rattle.block_memory.specs.Region.{AreWithin, CoverRegion, IsRegion, IsPackedRegion, ArePacked, HasRoom}
use Rattle.block_memory.proofs.Lists.{value_at-none, IsSome-in_range, None≢Some, true-not_false}
use Rattle.block_memory.proofs.ContentLemmas.{used_words-with_block, used_words-rewritten, used_words-without_block}
use Rattle.block_memory.proofs.LayoutLemmas.{Covers-set, Covers-set_here, Covers-set_other, Covers-set_none, Covers-by}
use Rattle.block_memory.proofs.LayoutLemmas.{AreApart-set, AreWithin-set, AreWithin-set_none, block_at-content_of}
use Rattle.block_memory.proofs.LayoutLemmas.{words_at-content_of, is_some-content_of, block_count-content_of}
use Rattle.block_memory.proofs.FreeLemmas.{length-set_range, is_free-set_inside, length-free_from, set_range-nothing}
use Rattle.block_memory.proofs.FreeLemmas.{is_free-from_before, is_free-from_behind, widest-free_from, is_free-still}
use Rattle.block_memory.proofs.FreeLemmas.{is_free-outside, in_or_out, hole_count-free_from}

-- a region with no block
pub content_of-empty : (most : ℕ) → content_of (replicate most None) ≡ no_blocks most
content_of-empty zero = refl
content_of-empty (suc most) = grind (arith, content_of-empty most)

pub IsRegion-empty : (size most : ℕ) → IsRegion (record { size = size; slots = replicate most None })
    (record { free = replicate size true; most = size + 1 }) 0
IsRegion-empty size most =
    grind (arith, length-replicate, true-not_false, get_or-replicate, value_at-none, sum_by-replicate)

-- a memory with no block
pub IsPackedRegion-empty : (size most : ℕ) → IsPackedRegion (record { size = size; slots = replicate most None })
    (record { free = replicate size true; most = size + 1 }) 0 0
IsPackedRegion-empty size most =
    let region = IsRegion-empty size most in grind (arith, content_of-empty, sum_by-replicate)

-- blocks cover no more words than they have
pub covered-le_used : (slots : List (Option PlacedBlock)) (size : ℕ) → AreWithin slots size
    → covered_words slots ≤ used_words (content_of slots)
covered-le_used [] size within = omega arith
covered-le_used (None ∷ slots) size within =
    grind (arith, sum_by-cons, covered-le_used slots size (λ n p there. within (suc n) p there))
covered-le_used (Some p ∷ slots) size within =
    let here = (within zero p refl).1 in
    let rest = covered-le_used slots size (λ n q there. within (suc n) q there) in
    let more = sum_by-cons (λ b. length (content_words_of b)) (block_of (Some p)) (content_of slots) in
    omega (arith, here, rest, sum_by-cons covered_of (Some p) slots, more)

-- after the blocks were moved together
pub IsRegion-packed : (before now : Layout) (holes : Region) (used : ℕ) → IsRegion before holes used
    → now.size ≡ before.size → content_of now.slots ≡ content_of before.slots → AreWithin now.slots now.size
    → ArePacked now.slots used → used ≡ covered_words now.slots → IsRegion now
    (record { free = free_from used (length holes.free); most = holes.most }) used
IsRegion-packed before now holes used r size content within packed counted =
    let fits : used ≤ length holes.free = let f = r.fits in let s = r.same_size in omega arith in
    let long = length-free_from used (length holes.free) fits in
    record {
      cover = record {
        apart = packed.apart;
        covered = λ n word c. is_free-from_before used (length holes.free) word (packed.behind n word c);
        others = grind (arith, true-not_false, is_free-from_behind);
      };
      within = within;
      same_size = long ∙ (r.same_size ∙ sym size);
      room = omega (arith, long, r.room);
      counted = counted;
      fits = let f = r.fits in omega arith;
    }

-- after the blocks were moved together a hole is wide enough
pub wide_enough : (layout : Layout) (holes : Region) (used len : ℕ) → holes.free ≡ free_from used layout.size
    → used + len ≤ layout.size → widest holes.free < len → ⊥
wide_enough layout holes used len packed fits narrow = grind (arith, widest-free_from)

-- no block covers the words that were taken
pub HasRoom-bare : {layout : Layout} {holes : Region} {used place len : ℕ} → HasRoom layout holes used place len →
    IsBare layout.slots place len
HasRoom-bare h other word from below c =
    true-not_false (is_free h.before.free word) (h.all_free word from below) (h.region.cover.covered other word c)

-- the block of a slot covers the word
abbrev Lies : Option PlacedBlock → ℕ → Type 0
Lies o word = (place_of o ≤ word) × (word < place_of o + covered_of o)

-- what covers a word after one slot was written: its block, or that of another as before
lies_set : (slots : List (Option PlacedBlock)) (n : ℕ) (o : Option PlacedBlock) {k word : ℕ} → n < length slots
    → Covers (slice_set slots n o) k word → ((k ≡ n) × Lies o word) ⊎ ((k ≢ n) × Covers slots k word)
lies_set slots n None within c = inr (Covers-set_none slots n within c)
lies_set slots n (Some p) within c = Covers-set slots n p within c

lies_here : (slots : List (Option PlacedBlock)) (n : ℕ) (o : Option PlacedBlock) (word : ℕ) → n < length slots
    → Lies o word → Covers (slice_set slots n o) n word
lies_here slots n None word within l = absurd (omega arith)
lies_here slots n (Some p) word within l = Covers-set_here slots p within l.0 l.1

-- blocks and holes still cover the region after one slot and the free words were written, if the slot's block covers
-- only words that aren't free, and every other word that isn't free wasn't before either
cover_set : (slots : List (Option PlacedBlock)) (n : ℕ) (o : Option PlacedBlock) (free free' : List Bool)
    → CoverRegion slots free → n < length slots → ((word : ℕ) → Lies o word → is_free free' word ≡ false)
    → ((k word : ℕ) → k ≢ n → Covers slots k word → (Lies o word → ⊥) × (is_free free' word ≡ false))
    → ((word : ℕ) → word < length free' → is_free free' word ≡ false → (Lies o word → ⊥)
    → (word < length free) × ((is_free free word ≡ false) × (Covers slots n word → ⊥)))
    → CoverRegion (slice_set slots n o) free'
cover_set slots n o free free' cover within here other was =
    record {
      apart = λ k m word a b.
          let first = lies_set slots n o within a in
          let second = lies_set slots n o within b in
          let of_first = other k word in
          let of_second = other m word in
          grind (arith, cover.apart k m word);
      covered = λ k word c. elim (lies_set slots n o within c) [
        | inl mine ↦ here word mine.1
        | inr another ↦ (other k word another.0 another.1).1
      ];
      others = λ word below taken. elim (in_or_out (place_of o) (covered_of o) word) [
        | inl lies ↦ record { number = n; covers = lies_here slots n o word within lies }
        | inr out ↦
            let before = was word below taken (λ lies. out lies.0 lies.1) in
            let c = cover.others word before.0 before.1.0 in
            let differs : c.number ≢ n =
            λ same. before.1.1 (subst (λ (k : ℕ). Covers slots k word) same c.covers) in
            record { number = c.number; covers = Covers-set_other n o differs c.covers }
      ];
    }

-- a block comes
module _ (layout : Layout) (holes : Region) (used n : ℕ) (new_block : PlacedBlock)
    (h : HasRoom layout holes used new_block.place new_block.len) (within : n < length layout.slots)
    (empty : value_at layout.slots n ≡ None) (fits : used + new_block.len ≤ layout.size)
    (few : new_block.len ≤ length new_block.words) where
  inside_free : new_block.place + new_block.len ≤ length h.before.free
  inside_free = omega arith

  cover_with_new : CoverRegion (slice_set layout.slots n (Some new_block)) holes.free
  cover_with_new =
      let free = h.before.free in
      rw (ap (λ (r : Region). r.free) h.taken) (cover_set layout.slots n (Some new_block) free _ h.region.cover within
      (λ word lies. is_free-set_inside free new_block.place new_block.len word false inside_free lies.0 lies.1)
      (λ k word other c. (
        λ lies. HasRoom-bare h k word lies.0 lies.1 c,
        is_free-still free new_block.place new_block.len word false inside_free (h.region.cover.covered k word c),
      ))
      (λ word below taken out. (
        omega (arith, length-set_range, inside_free, below),
        (
          grind (arith, is_free-outside, inside_free),
          λ c. None≢Some c.block (sym empty ∙ c.there),
        ),
      )))

  pub IsRegion-put : IsRegion (with_slot layout n (Some new_block)) holes (used + new_block.len)
  IsRegion-put =
      record {
        cover = cover_with_new;
        within = AreWithin-set layout.slots layout.size n new_block within h.region.within
            (h.inside, few);
        same_size =
            grind (arith, length-set_range, inside_free);
        room =
            grind (arith, length-set_range, inside_free);
        counted =
            grind (arith, sum_by-set);
        fits = fits;
      }

  -- as many words more are in use
  pub used-put : used_words (content_of (slice_set layout.slots n (Some new_block)))
      ≡ used_words (content_of layout.slots) + length new_block.words
  used-put = grind (arith, length-map, map-set, used_words-with_block, block_at-content_of)

-- a block that covers no word needs none
pub HasRoom-nothing : (layout : Layout) (holes : Region) (used : ℕ) → IsRegion layout holes used
    → HasRoom layout holes used 0 0
HasRoom-nothing layout holes used r = grind arith

-- a block goes
module _ (layout : Layout) (holes : Region) (used n : ℕ) (p : PlacedBlock) (r : IsRegion layout holes used)
    (there : value_at layout.slots n ≡ Some p) where
  pub in_range : n < length layout.slots
  in_range = IsSome-in_range layout.slots n (ap is_some there)

  pub inside : p.place + p.len ≤ length holes.free
  inside = let w = (r.within n p there).0 in let s = r.same_size in omega arith

  gone_covers : (word : ℕ) → p.place ≤ word → word < p.place + p.len → Covers layout.slots n word
  gone_covers word from below = grind arith

  -- none of its words is free
  pub none_free : NoneFree holes.free p.place p.len
  none_free word from below = r.cover.covered n word (gone_covers word from below)

  cover_without : CoverRegion (slice_set layout.slots n None) (set_range holes.free p.place p.len true)
  cover_without =
      cover_set layout.slots n None holes.free _ r.cover in_range (λ word lies. absurd (omega arith))
      (λ k word other c. (
        λ lies. omega arith,
        is_free-outside holes.free p.place p.len word true inside
            (λ from below. other (r.cover.apart k n word c (gone_covers word from below))) ∙ r.cover.covered k word c,
      ))
      (λ word below taken out. elim (in_or_out p.place p.len word) [
        | inl here ↦ absurd (true-not_false _
            (is_free-set_inside holes.free p.place p.len word true inside here.0 here.1) taken)
        | inr outside ↦ (
          omega (arith, length-set_range, inside, below),
          (
            sym (is_free-outside holes.free p.place p.len word true inside outside) ∙ taken,
            λ c. let by = Covers-by p there c in outside by.0 by.1,
          ),
        )
      ])

  live : IsLive (content_of layout.slots) n
  live = grind (arith, is_some-content_of, is_some)

  words_there : length (content_words_at (content_of layout.slots) n) ≡ length p.words
  words_there = grind (arith, words_at-content_of)

  -- the words that it covers are among those that are covered
  pub less_covered : p.len ≤ used
  less_covered = grind (arith, get_or-le-sum_by, in_range)

  -- its words are no longer in use
  pub used-remove : used_words (content_of (slice_set layout.slots n None)) + length p.words
      ≡ used_words (content_of layout.slots)
  used-remove =
      let same = ap used_words (map-set block_of layout.slots n None) in
      omega (arith, same, used_words-without_block (content_of layout.slots) n live, words_there)

  pub IsRegion-remove : IsRegion (with_slot layout n None) (given_to holes p.place p.len)
      (used - p.len)
  IsRegion-remove =
      record {
        cover = cover_without;
        within = AreWithin-set_none layout.slots layout.size n in_range r.within;
        same_size = length-set_range holes.free p.place p.len true inside ∙ r.same_size;
        room = omega (arith, length-set_range, inside);
        counted =
            grind (arith, sum_by-set, in_range);
        fits = let f = r.fits in omega arith;
      }

  -- a block is written over
  module _ (new : List ℤ) (long : length new ≡ length p.words) where
    abbrev rewritten : PlacedBlock
    rewritten = record { owner = p.owner; place = p.place; len = p.len; words = new }

    -- no other block covers one of its words
    its_own : IsClear layout.slots n p.place p.len
    its_own other word from below c = r.cover.apart other n word c (gone_covers word from below)

    cover_rewritten : CoverRegion (slice_set layout.slots n (Some rewritten)) holes.free
    cover_rewritten =
        cover_set layout.slots n (Some rewritten) holes.free holes.free r.cover in_range
        (λ word lies. r.cover.covered n word (gone_covers word lies.0 lies.1))
        (λ k word other c. (λ lies. other (its_own k word lies.0 lies.1 c), r.cover.covered k word c))
        (λ word below taken out. (below, (taken, λ c. out (Covers-by p there c))))

    content_rewritten : content_of (slice_set layout.slots n (Some rewritten)) ≡ with_block (content_of layout.slots) n
        (record { owner = p.owner; words = new })
    content_rewritten = grind (arith, map-set, rewritten)

    region_rewritten : IsRegion (with_slot layout n (Some rewritten)) holes used
    region_rewritten =
        record {
          cover = cover_rewritten;
          within = AreWithin-set layout.slots layout.size n rewritten in_range r.within
              (let w = r.within n p there in (w.0, omega (arith, w.1, long)));
          same_size = r.same_size;
          room = r.room;
          counted =
              grind (arith, sum_by-set, rewritten, in_range);
          fits = r.fits;
        }

    -- as many words are in use
    used_rewritten : used_words (content_of (slice_set layout.slots n (Some rewritten)))
        ≡ used_words (content_of layout.slots)
    used_rewritten = grind (arith, words_at-content_of, content_rewritten, used_words-rewritten, live)

-- a number has a block if the region contains one
pub slot_there : (slots : List (Option PlacedBlock)) (n : ℕ) → IsLive (content_of slots) n → IsSome (value_at slots n)
slot_there slots n live = sym (is_some-content_of slots n) ∙ live

-- the block that a number has
pub the_block : (slots : List (Option PlacedBlock)) (n : ℕ) → IsSome (value_at slots n)
    → (p : PlacedBlock) × (value_at slots n ≡ Some p)
the_block slots n some = grind (arith, true-not_false)

-- what is known of a block that is taken away, and of the words that it covers
pub record IsLeaving (layout : Layout) (holes : Region) (used n place len : ℕ) : Type 0 where
  pub within : place + len ≤ length holes.free
  pub less : len ≤ used
  pub none_free : NoneFree holes.free place len
  pub region : IsRegion (with_slot layout n None) (given_to holes place len) (used - len)

pub is_leaving : {layout : Layout} {holes : Region} {used n place len : ℕ} → IsRegion layout holes used → IsLive
    (content_of layout.slots) n → place ≡ place_at layout.slots n → len ≡ covered_at layout.slots n → IsLeaving layout
    holes used n place len
is_leaving {layout} {holes} {used} {n} r live here long =
    let p = the_block layout.slots n (slot_there layout.slots n live) in
    rw (here ∙ ap place_of p.1, long ∙ ap covered_of p.1)
    (record {
      within = inside layout holes used n p.0 r p.1;
      less = less_covered layout holes used n p.0 r p.1;
      none_free = none_free layout holes used n p.0 r p.1;
      region = IsRegion-remove layout holes used n p.0 r p.1;
    })

-- blocks cover no more words than are in use
pub covered_fits : {layout : Layout} {holes : Region} {covered : ℕ} (used : ℕ) → IsRegion layout holes covered → used
    ≡ used_words (content_of layout.slots) → covered ≤ used
covered_fits {layout} used r counted = grind (arith, covered-le_used layout.slots layout.size r.within)

-- a memory that gets a block of this many words, of which as many as it covers lie in the region
pub IsPackedRegion-put : {layout : Layout} {holes : Region} {covered more : ℕ} (used n : ℕ) (b : PlacedBlock)
    → HasRoom layout holes covered b.place b.len → used ≡ used_words (content_of layout.slots)
    → n < length layout.slots → value_at layout.slots n ≡ None → length b.words ≡ more → b.len ≤ more
    → used + more ≤ layout.size → IsPackedRegion (with_slot layout n (Some b)) holes (covered + b.len) (used + more)
IsPackedRegion-put {layout} {holes} {covered} used n b h counted within empty long few fits =
    let less = covered_fits used h.region counted in
    let room : covered + b.len ≤ layout.size = omega arith in
    let few_words : b.len ≤ length b.words = omega arith in
    record {
      region = IsRegion-put layout holes covered n b h within empty room few_words;
      counted = omega (arith, counted, long, used-put layout holes covered n b h within empty room few_words);
      fits = fits;
    }

-- a memory that gets a block of one word, which covers none
pub IsPackedRegion-word : {layout : Layout} {holes : Region} {covered used : ℕ} (n owner : ℕ) (words : List ℤ)
    → IsPackedRegion layout holes covered used → length words ≡ 1 → n < length layout.slots
    → value_at layout.slots n ≡ None → used + 1 ≤ layout.size
    → IsPackedRegion (with_slot layout n (Some (record { owner = owner; place = 0; len = 0; words = words }))) holes
    covered (used + 1)
IsPackedRegion-word {layout} {holes} {covered} {used} n owner words r one within empty fits =
    let same : covered + 0 ≡ covered = omega arith in
    rw same at (IsPackedRegion-put used n (record { owner = owner; place = 0; len = 0; words = words })
    (HasRoom-nothing layout holes covered r.region) r.counted within empty one (omega arith) fits)

-- what is known of a block that is freed
pub record IsFreed (layout : Layout) (holes : Region) (covered used n place len words : ℕ) : Type 0 where
  pub leaving : IsLeaving layout holes covered n place len
  pub less : words ≤ used
  pub memory : IsPackedRegion (with_slot layout n None) (given_to holes place len) (covered - len) (used - words)
  pub without_room : len ≡ 0 → IsPackedRegion (with_slot layout n None) holes covered (used - words)

pub is_freed : (layout : Layout) (holes : Region) (covered used n place len words : ℕ)
    → IsPackedRegion layout holes covered used → IsLive (content_of layout.slots) n → place ≡ place_at layout.slots n
    → len ≡ covered_at layout.slots n → words ≡ length (words_at layout.slots n)
    → IsFreed layout holes covered used n place len words
is_freed layout holes covered used n place len words r live here covers long =
    let p = the_block layout.slots n (slot_there layout.slots n live) in
    let gone = used-remove layout holes covered n p.0 r.region p.1 in
    let size : words ≡ length p.0.words = long ∙ ap (λ o. length (words_of o)) p.1 in
    let leaving = is_leaving r.region live here covers in
    let counted : used - words ≡ used_words (content_of (slice_set layout.slots n None)) =
    omega (arith, gone, size, r.counted) in
    let fits = r.fits in
    record {
      leaving = leaving;
      less = omega (arith, gone, size, r.counted);
      memory = grind arith;
      without_room = grind (arith, set_range-nothing holes.free place true);
    }

-- what the region contains after a block came or went
pub content_of-put : (slots : List (Option PlacedBlock)) (n : ℕ) (p : PlacedBlock)
    → content_of (slice_set slots n (Some p)) ≡ with_block (content_of slots) n
    (record { owner = p.owner; words = p.words })
content_of-put slots n p = map-set block_of slots n (Some p)

pub content_of-remove : (slots : List (Option PlacedBlock)) (n : ℕ)
    → content_of (slice_set slots n None) ≡ without_block (content_of slots) n
content_of-remove slots n = map-set block_of slots n None

-- what is known of a block that is written over
pub record CanRewrite (layout : Layout) (holes : Region) (used n : ℕ) (new : List ℤ) : Type 0 where
  pub there : IsSome (value_at layout.slots n)
  pub same_length : length new ≡ length (words_at layout.slots n)
  pub clear : IsClear layout.slots n (place_at layout.slots n) (covered_at layout.slots n)
  pub region : IsRegion (layout_after_rewrite layout n new) holes used
  pub same_used : used_words (content_of (layout_after_rewrite layout n new).slots)
      ≡ used_words (content_of layout.slots)
  pub content : content_of (layout_after_rewrite layout n new).slots ≡ with_block (content_of layout.slots) n
      (record { owner = content_owner_at (content_of layout.slots) n; words = new })

pub can_rewrite : {layout : Layout} {holes : Region} {used n : ℕ} {new : List ℤ} → IsRegion layout holes used → IsLive
    (content_of layout.slots) n → length new ≡ length (content_words_at (content_of layout.slots) n) → CanRewrite
    layout holes used n new
can_rewrite {layout} {holes} {used} {n} {new} r live same =
    let some = slot_there layout.slots n live in
    let p = the_block layout.slots n some in
    let size : length new ≡ length (words_at layout.slots n) =
    same ∙ ap length (words_at-content_of layout.slots n) in
    let long : length new ≡ length p.0.words = size ∙ ap (λ o. length (words_of o)) p.1 in
    let owner : content_owner_at (content_of layout.slots) n ≡ p.0.owner =
    grind (arith, block_at-content_of) in
    record {
      there = some;
      same_length = size;
      clear =
          subst (λ (o : Option PlacedBlock). IsClear layout.slots n (place_of o) (covered_of o)) (sym p.1)
          (its_own layout holes used n p.0 r p.1 new long);
      region =
          grind (arith, region_rewritten layout holes used n p.0 r p.1 new long);
      same_used =
          grind (arith, slice_set, used_rewritten);
      content =
          grind (arith, slice_set, content_rewritten);
    }

-- the words of a block that is lent, and the lists of all that are
pub lent_words : (slots : List (Option PlacedBlock)) (n : ℕ) → words_at slots n
    ≡ content_words_at (content_of slots) n
lent_words slots n = sym (words_at-content_of slots n)

pub lent_lists : (slots : List (Option PlacedBlock)) (content : Content) (lent : List ℕ)
    → content_of slots ≡ content → map (words_at slots) lent ≡ map (content_words_at content) lent
lent_lists slots content lent same = grind (arith, lent_words)

-- a block that was put is one that was placed, with words of which this is so
pub placed_with : (slots : List (Option PlacedBlock)) {content : Content} {n len : ℕ} (b : PlacedBlock) {is : List ℤ →
    Type 0} → content_of slots ≡ content → n < length slots → value_at slots n ≡ None → length b.words ≡ len → is
    b.words → IsPlacedWith content (content_of (slice_set slots n (Some b))) n b.owner len is
placed_with slots b same within empty long so =
    grind (arith, in_range, length-map, block_at-content_of, content_of-put)

-- ---- what proofs of functions use

pub ruleset for_new = (IsPackedRegion-empty, content_of-empty)

pub ruleset for_put = (HasRoom-bare, IsPackedRegion-put, content_of-put, covered_fits)

pub ruleset for_put_with = (HasRoom-bare, IsPackedRegion-put, covered_fits, lent_lists, placed_with)

pub ruleset for_put_word = (IsPackedRegion-word, content_of-put)

pub ruleset for_put_word_with = (IsPackedRegion-word, lent_lists, placed_with)

pub ruleset for_rewrite_with = (can_rewrite, lent_lists, lent_words)

pub ruleset for_blocks = (block_count-content_of)

pub ruleset for_free = (is_freed, content_of-remove)

pub ruleset for_pack = (hole_count-free_from)
