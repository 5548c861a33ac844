-- Lemmas on the words below the lowest free one: the blocks there are packed already.
use Rattle.std.proofs.Common.{◌≡◌, ℕ, zero, suc, ◌+◌, ◌<◌, ◌≤◌, Bool, true, false, List, [], ◌∷◌, length, Some, is_some}
use Rattle.std.proofs.Common.{inl, inr, refl, sym, ap, subst, ◌∙◌, arith}
use Rattle.std.proofs.lemmas.Bool.{cases_lt}
use Rattle.holes.specs.FreeWords.{Region, is_free, lowest_free}
use Rattle.block_memory.specs.Table.{value_at}
use Rattle.block_memory.specs.Layout.{PlacedBlock, Layout, Begins, place_of, covered_of}
use Rattle.block_memory.specs.Region.{IsRegion}
use Rattle.block_memory.proofs.PackLemmas.{IsPacking, IsPacking-start, IsPacking-moved, IsPacking-block, ArePacked-end}
use Rattle.block_memory.proofs.PackLemmas.{IsPacking-inside, IsPacking-skip, begins-some, moved_within, slide_clear}
use Rattle.block_memory.proofs.SlideLemmas.{after_no_move, is_gap, is_slid, is_sliding, place_inside, to_front}
use Rattle.block_memory.proofs.SlideLemmas.{widest-ge}
use Rattle.block_memory.proofs.FreeLemmas.{has_room}

pub lowest-within : (free : List Bool) → lowest_free free ≤ length free
lowest-within [] = omega arith
lowest-within (true ∷ free) = omega arith
lowest-within (false ∷ free) = omega (arith, lowest-within free)

lowest-none_below : (free : List Bool) (word : ℕ) → word < lowest_free free → is_free free word ≡ false
lowest-none_below [] word below = absurd (omega arith)
lowest-none_below (true ∷ free) word below = absurd (omega arith)
lowest-none_below (false ∷ free) zero below = refl
lowest-none_below (false ∷ free) (suc word) below = lowest-none_below free word (omega arith)

lowest-is_free : (free : List Bool) → lowest_free free < length free → is_free free (lowest_free free) ≡ true
lowest-is_free [] within = absurd (omega arith)
lowest-is_free (true ∷ free) within = refl
lowest-is_free (false ∷ free) within = grind (arith, lowest-is_free free (omega arith))

-- a block that lies right after those that are packed, and ends no later than at `front`
record IsPassed (layout : Layout) (used front place : ℕ) : Type 0 where
  len : ℕ
  some : 1 ≤ len
  below : place + len ≤ front
  packing : IsPacking layout layout (place + len) (place + len) used

module _ (layout : Layout) (holes : Region) (used : ℕ) (r : IsRegion layout holes used) where
  -- a block that begins below the lowest free word ends there
  ends_below : (n : ℕ) (p : PlacedBlock) → value_at layout.slots n ≡ Some p → 0 < p.len
      → p.place < lowest_free holes.free → p.place + p.len ≤ lowest_free holes.free
  ends_below n p there some before =
      let covered = λ (across : lowest_free holes.free < p.place + p.len). r.cover.covered n (lowest_free holes.free)
      (record { block = p; there = there; from = omega arith; below = across }) in
      let within = (r.within n p there).0 in
      grind (arith, lowest-is_free)

  pass : (place : ℕ) → place < lowest_free holes.free → IsPacking layout layout place place used
      → IsPassed layout used (lowest_free holes.free) place
  pass place before i =
      let within = lowest-within holes.free in
      let covered = r.cover.others place (omega arith) (lowest-none_below holes.free place before) in
      let n = covered.number in
      let p = covered.covers.block in
      let there = covered.covers.there in
      let from = covered.covers.from in
      let below = covered.covers.below in
      let some : 0 < p.len = omega arith in
      let sides = i.sides n p there some in
      let here : p.place ≡ place = omega arith in
      let begins : Begins layout.slots n place = record { block = p; there = there; here = here; some = some } in
      let stays = after_no_move layout n place (ap is_some there) (ap place_of there ∙ here) in
      let ends = ends_below n p there some (omega arith) in
      record {
        len = p.len;
        some = some;
        below = omega (arith, here, ends);
        packing =
            IsPacking-moved p.len i begins stays (sym (ap covered_of there));
      }

  pass_all : (steps place : ℕ) → lowest_free holes.free ≤ place + steps → place ≤ lowest_free holes.free
      → IsPacking layout layout place place used
      → IsPacking layout layout (lowest_free holes.free) (lowest_free holes.free) used
  pass_all zero place enough within i = grind arith
  pass_all (suc steps) place enough within i =
      elim (cases_lt place (lowest_free holes.free)) [
        | inr past ↦
            let end : place ≡ lowest_free holes.free = omega arith in
            subst (λ k. IsPacking layout layout k k used) end i
        | inl before ↦
            let next = pass place before i in
            pass_all steps (place + next.len) (omega (arith, next.some)) next.below next.packing
      ]

  -- so packing may begin at the lowest free word
  IsPacking-lowest : IsPacking layout layout (lowest_free holes.free) (lowest_free holes.free) used
  IsPacking-lowest =
      pass_all (lowest_free holes.free) 0 (omega arith) (omega arith)
      (IsPacking-start layout used r.cover.apart r.within r.counted)

-- what is known where packing begins
pub record IsBegun (layout : Layout) (used front : ℕ) : Type 0 where
  pub packing : IsPacking layout layout front front used
  pub within : front ≤ layout.size

pub is_begun : {layout : Layout} {holes : Region} {used front : ℕ} → IsRegion layout holes used → front ≡ lowest_free
    holes.free → IsBegun layout used front
is_begun {layout} {holes} {used} r is = grind (arith, IsPacking-lowest layout holes used r, lowest-within holes.free)

-- ---- what proofs of functions use

pub ruleset for_pack_blocks = (ArePacked-end, slide_clear, moved_within, begins-some)

pub ruleset for_slide_make_room = (moved_within, begins-some, is_gap, place_inside, IsPacking-block)

pub ruleset for_slide_down = (has_room, is_sliding, is_slid, to_front, after_no_move)
