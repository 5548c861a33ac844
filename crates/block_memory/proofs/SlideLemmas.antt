-- Lemmas on blocks that slide down: a block goes, and comes again at the front of the lowest hole.
use Rattle.std.proofs.Common.{◌≢◌, ◌≡◌, ℕ, zero, suc, ◌+◌, ◌-◌, ◌<◌, ◌≤◌, Bool, true, false, List, [], ◌∷◌, length}
use Rattle.std.proofs.Common.{drop}
use Rattle.std.proofs.Common.{slice_set, Some, None, IsSome, inl, inr, refl, ap, ◌∙◌, arith, rules}
use Rattle.std.proofs.lemmas.Bool.{cases_lt, false≢true}
use Rattle.std.proofs.lemmas.List.{set-set, set-get_or, length-set, get_or-drop}
use Rattle.holes.specs.FreeWords.{Region, is_free, AllFree, NoneFree, taken_from, given_to, IsHole, IsLowestFit}
use Rattle.holes.specs.FreeWords.{front_run, widest}
use Rattle.block_memory.specs.Table.{value_at}
use Rattle.block_memory.specs.Layout.{PlacedBlock, Layout, IsClear, place_of, covered_of}
use Rattle.block_memory.specs.Layout.{place_at, covered_at, with_slot, layout_after_move}
use Rattle.block_memory.specs.Region.{IsRegion, HasRoom}
use Rattle.block_memory.proofs.Lists.{true-not_false}
use Rattle.block_memory.proofs.LayoutLemmas.{value_at-set_same, Covers-set_other, is_some-content_of}
use Rattle.block_memory.proofs.FreeLemmas.{length-set_range, is_free-set_inside, is_free-set_before}
use Rattle.block_memory.proofs.PackLemmas.{IsPacking}
use Rattle.block_memory.proofs.RegionLemmas.{IsLeaving, is_leaving, the_block, in_range, inside, IsRegion-remove}
use Rattle.block_memory.proofs.RegionLemmas.{IsRegion-put, HasRoom-bare}

-- free words in a row are no more than the widest hole has
front_run-ge : (free : List Bool) (len : ℕ) → AllFree free 0 len → len ≤ front_run free
front_run-ge free zero all = omega arith
front_run-ge [] (suc len) all = absurd (false≢true (all 0 (omega arith) (omega arith)))
front_run-ge (false ∷ free) (suc len) all = absurd (false≢true (all 0 (omega arith) (omega arith)))
front_run-ge (true ∷ free) (suc len) all =
    omega (arith, front_run-ge free len (λ word from below. all (suc word) (omega arith) (omega arith)))

pub widest-ge : (free : List Bool) (place len : ℕ) → AllFree free place len → len ≤ widest free
widest-ge [] place zero all = omega arith
widest-ge [] place (suc len) all = absurd (false≢true (all place (omega arith) (omega arith)))
widest-ge (word ∷ free) zero len all = grind (arith, front_run-ge (word ∷ free) len all)
widest-ge (word ∷ free) (suc place) len all =
    omega (arith, widest-ge free place len (λ other from below. all (suc other) (omega arith) (omega arith)))

-- the hole that begins at a free word after one that isn't free
front_run-free : (free : List Bool) (word : ℕ) → word < front_run free → is_free free word ≡ true
front_run-free [] word below = absurd (omega arith)
front_run-free (false ∷ free) word below = absurd (omega arith)
front_run-free (true ∷ free) zero below = refl
front_run-free (true ∷ free) (suc word) below = front_run-free free word (omega arith)

front_run-ends : (free : List Bool) → is_free free (front_run free) ≡ false
front_run-ends [] = refl
front_run-ends (false ∷ free) = refl
front_run-ends (true ∷ free) = grind (arith, front_run-ends free)

hole_from : (free : List Bool) (front len : ℕ) → 1 ≤ len → NoneFree free 0 front → AllFree free front len
    → (hole_len : ℕ) × IsHole free front hole_len × (len ≤ hole_len)
hole_from free front len some none_below all =
    let wide = front_run-ge (drop front free) len (λ word from below. get_or-drop front free word false
    ∙ all (front + word) (omega arith) (omega arith)) in
    let hole : IsHole free front (front_run (drop front free)) = record {
      some = omega (arith, wide);
      inside = λ word from below.
          let back : front + (word - front) ≡ word = omega arith in
          let free_there = front_run-free (drop front free) (word - front) (omega arith) in
          grind (arith, get_or-drop front free (word - front) false);
      before = λ word next. none_below word (omega arith) (omega arith);
      behind = grind (arith, get_or-drop front free (front_run (drop front free)) false, front_run-ends);
    } in
    (_, hole, wide)

-- the lowest fit is the front of the lowest hole, if that is wide enough
fit_is-front : (free : List Bool) (len to front : ℕ) → 1 ≤ len → IsLowestFit free len to → NoneFree free 0 front
    → AllFree free front len → to ≡ front
fit_is-front free len to front some fit none_below all = search (rules, hole_from, true-not_false)

-- a block that stays at its place
pub after_no_move : (layout : Layout) (n to : ℕ) → IsSome (value_at layout.slots n) → place_at layout.slots n ≡ to
    → layout ≡ layout_after_move layout n to
after_no_move layout n to some here = search (rules, the_block, set-get_or)

-- what is known of a block that moves to another place
pub record IsSlid (layout : Layout) (holes : Region) (used n place len to : ℕ) : Type 0 where
  pub fits : to + covered_at layout.slots n ≤ layout.size
  pub clear : IsClear layout.slots n to (covered_at layout.slots n)
  pub region : IsRegion (layout_after_move layout n to) (taken_from (given_to holes place len) to len) used

-- the block of a number goes, and comes again at another place
module _ (layout : Layout) (holes : Region) (used n : ℕ) (p : PlacedBlock) (r : IsRegion layout holes used)
    (there : value_at layout.slots n ≡ Some p) (less : p.len ≤ used) (to : ℕ)
    (fit : IsLowestFit (given_to holes p.place p.len).free p.len to)
    (within : to + p.len ≤ length (given_to holes p.place p.len).free) where
  abbrev moved_to : PlacedBlock
  moved_to = record { owner = p.owner; place = to; len = p.len; words = p.words }

  abbrev given : Region
  given = given_to holes p.place p.len

  room : HasRoom (with_slot layout n None) (taken_from given to p.len) (used - p.len) to
      p.len
  room =
      grind (
        arith,
        length-set_range holes.free p.place p.len true (inside layout holes used n p r there),
        inside layout holes used n p r there,
        IsRegion-remove layout holes used n p r there,
      )

  in_slots : n < length layout.slots
  in_slots = in_range layout holes used n p r there

  empty : value_at (slice_set layout.slots n None) n ≡ None
  empty = omega (arith, value_at-set_same, in_slots)

  clear_there : IsClear layout.slots n to p.len
  clear_there other word from below c =
      let bare = λ (differs : other ≢ n). HasRoom-bare room other word from below (Covers-set_other n None differs c) in
      grind arith

  region_then : IsRegion (with_slot layout n (Some moved_to)) (taken_from given to p.len) used
  region_then =
      let there_still : n < length (slice_set layout.slots n None) = rw (length-set layout.slots n None) in_slots in
      let back : used - p.len + p.len ≡ used = omega arith in
      let fits = r.fits in
      let put =
      IsRegion-put (with_slot layout n None) (taken_from given to p.len) (used - p.len) n
      moved_to room there_still empty (omega arith) (r.within n p there).1 in
      rw (set-set layout.slots n None (Some moved_to), back) at put

  slid : IsSlid layout holes used n p.place p.len to
  slid = record {
    fits = rw (ap covered_of there) room.inside;
    clear = rw (ap covered_of there) clear_there;
    region = rw there region_then;
  }

-- what is known of a block that is to slide down, before its words are given back
pub record IsSliding (layout : Layout) (holes : Region) (used n place len : ℕ) : Type 0 where
  pub leaving : IsLeaving layout holes used n place len
  pub wide : len ≤ widest (given_to holes place len).free

module _ {layout : Layout} {holes : Region} {used place len : ℕ} (n : ℕ) (r : IsRegion layout holes used)
    (some : IsSome (value_at layout.slots n)) (here : place ≡ place_at layout.slots n)
    (long : len ≡ covered_at layout.slots n) where
  pub is_sliding : IsSliding layout holes used n place len
  is_sliding =
      let leaving =
      is_leaving r (is_some-content_of layout.slots n ∙ some) here long in
      record {
        leaving = leaving;
        wide = widest-ge (given_to holes place len).free place len
            (λ word from below. is_free-set_inside holes.free place len word true leaving.within from below);
      }

  -- after as many words were taken of a hole
  pub is_slid : (given : Region) (to : ℕ) → given ≡ given_to holes place len → IsLowestFit given.free len to
      → to + len ≤ length given.free → IsSlid layout holes used n place len to
  is_slid given to same fit within =
      let p = the_block layout.slots n some in
      let is_place : place ≡ p.0.place = here ∙ ap place_of p.1 in
      let is_len : len ≡ p.0.len = long ∙ ap covered_of p.1 in
      let less : p.0.len ≤ used = rw is_len at is_sliding.leaving.less in
      let fit_there = rw (same, is_place, is_len) at fit in
      let within_there = rw (same, is_place, is_len) at within in
      rw (is_place, is_len) (slid layout holes used n p.0 r p.1 less to fit_there within_there)

  -- these are the first words of the lowest hole, if the block's words then lie after a hole
  pub to_front : (given : Region) (to front : ℕ) → given ≡ given_to holes place len → IsLowestFit given.free len to
      → 1 ≤ len
      → front ≤ place_at layout.slots n → NoneFree holes.free 0 front
      → AllFree holes.free front (place_at layout.slots n - front) → to ≡ front
  to_front given to front same fit some_words down none_below hole =
      let fits = is_sliding.leaving.within in
      fit_is-front (given_to holes place len).free len to front some_words (rw same at fit)
      (λ word from below. is_free-set_before holes.free place len word true fits (omega arith)
      ∙ none_below word from below)
      (λ word from below. elim (cases_lt word place) [
        | inl before ↦ grind (arith, is_free-set_before)
        | inr behind ↦ grind (arith, is_free-set_inside)
      ])

-- While blocks slide: what is known before each.
pub record IsGap (holes : Region) (packed place : ℕ) : Type 0 where
  pub none_below : NoneFree holes.free 0 packed
  pub all_free : AllFree holes.free packed (place - packed)

pub is_gap : {before now : Layout} {holes : Region} {packed place used : ℕ} → IsPacking before now packed place used →
    IsRegion now holes used → place ≤ now.size → IsGap holes packed place
is_gap {before} {now} {holes} {packed} {place} {used} i r within =
    record {
      none_below = λ word from below. let c = i.front word (omega arith) in r.cover.covered c.number word c.covers;
      all_free = grind arith;
    }

-- while the gap is too narrow, a block is after it
pub place_inside : {before now : Layout} {packed place used : ℕ} (len : ℕ) → IsPacking before now packed place used →
    used + len ≤ before.size → place - packed < len → place < now.size
place_inside len i fits narrow = omega arith
