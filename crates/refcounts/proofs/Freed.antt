-- The words that are in use once references are released.
use Rattle.std.proofs.Common.{◌≡◌, ℕ, ◌+◌, ◌<◌, ◌≤◌, cond, eqb, ltb, List, [], ◌∷◌, ◌++◌, length, get_or, set, take}
use Rattle.std.proofs.Common.{refl, sym, ◌∙◌, ap, arith}
use Rattle.std.specs.Prelude.{sum_by}
use Rattle.std.proofs.lemmas.Bool.Decides.{nat_tests}
use Rattle.std.proofs.lemmas.List.{take_more, take_all, set_past}
use Rattle.std.proofs.lemmas.List.Sums.{sum_by-set, sum_by-take-le, sum_by_more}
use Rattle.refcounts.specs.SharedState.{Slot, empty_slot, SharedState, slot_in, slot_at, IsLive, used_words}
use Rattle.refcounts.specs.SharedState.{block_count, lowered_slot, state_after_release, state_after_releases}
use Rattle.refcounts.specs.SharedState.{occurrences, AreNamed}
use Rattle.refcounts.proofs.Puts.{put, releases_counted, releases_keep}

-- a measure that no slot raises when it has one reference less
only_freed : (measure : Slot → ℕ) → ((slot : Slot) → measure (lowered_slot slot) ≤ measure slot)
    → (memory : SharedState) (ids : List ℕ)
    → sum_by measure (state_after_releases memory ids).slots ≤ sum_by measure memory.slots
only_freed measure less memory [] = omega arith
only_freed measure less memory (id ∷ ids) =
    let slot = slot_at memory id in
    let step : sum_by measure (state_after_release memory id).slots ≤ sum_by measure memory.slots =
    freed_step measure memory.slots id (lowered_slot slot) (less slot) in
    omega (arith, step, only_freed measure less (state_after_release memory id) ids)
  where
    freed_step : (measure : Slot → ℕ) (slots : List Slot) (id : ℕ) (slot : Slot)
        → measure slot ≤ measure (slot_in slots id) → sum_by measure (set slots id slot) ≤ sum_by measure slots
    freed_step measure slots id slot le =
        let put = sum_by-set measure slots id slot empty_slot in grind (arith, set_past)

-- no release brings words or blocks
pub words_freed : (memory : SharedState) (ids : List ℕ)
    → used_words (state_after_releases memory ids) ≤ used_words memory
words_freed = only_freed (λ slot. length slot.words) (λ slot. grind (arith, nat_tests))

pub blocks_freed : (memory : SharedState) (ids : List ℕ)
    → block_count (state_after_releases memory ids) ≤ block_count memory
blocks_freed = only_freed (λ slot. cond (ltb 0 slot.count) 1 0) (λ slot. grind (arith, nat_tests))

pub ruleset releases_free = (words_freed, blocks_freed)

-- after one release the words of a block are free if it was the last reference
used_step : (memory : SharedState) (id : ℕ) → IsLive memory id
    → used_words (state_after_release memory id) + cond (eqb (slot_at memory id).count 1)
    (length (slot_at memory id).words) 0 ≡ used_words memory
used_step memory id live =
    let sum = sum_by-set (λ slot. length slot.words) memory.slots id (lowered_slot (slot_at memory id)) empty_slot in
    grind (arith, put, sum)

releases_more : (memory : SharedState) (ids : List ℕ) (id : ℕ)
    → state_after_releases memory (ids ++ (id ∷ [])) ≡ state_after_release (state_after_releases memory ids) id
releases_more memory [] id = refl
releases_more memory (first ∷ ids) id = releases_more (state_after_release memory first) ids id

-- One turn of a loop over such a list, each of whose blocks is listed at most as often as references name it.
module _ (memory : SharedState) (ids : List ℕ) (index id : ℕ) (within : index < length ids)
    (is : id ≡ get_or ids index id) where
  -- it is the next to be released
  pub turn_next : state_after_release (state_after_releases memory (take index ids)) id
      ≡ state_after_releases memory (take (index + 1) ids)
  turn_next =
      sym (ap (state_after_releases memory)
      (take_more ids index id within ∙ ap (λ k. take index ids ++ (k ∷ [])) (sym is))
      ∙ releases_more memory (take index ids) id)

  named_before : AreNamed memory ids → AreNamed memory (take index ids)
  named_before named k = omega (arith, named k, sum_by-take-le (λ other. cond (eqb other k) 1 0) ids index)

  -- the block is there after those before it
  pub turn_live : AreNamed memory ids → IsLive (state_after_releases memory (take index ids)) id
  turn_live named =
      let times = λ (other : ℕ). cond {A = ℕ} (eqb other id) 1 0 in
      let counted = releases_counted memory (take index ids) id (named_before named) in
      grind (arith, nat_tests, named id, sum_by_more times ids index id within, sum_by-take-le times ids (index + 1))

  -- its words go with the last reference alone
  pub turn_freed : AreNamed memory ids
      → used_words (state_after_releases memory (take (index + 1) ids)) + cond
      (eqb (slot_at memory id).count (occurrences id (take index ids) + 1)) (length (slot_at memory id).words)
      0 ≡ used_words (state_after_releases memory (take index ids))
  turn_freed named =
      let live = turn_live named in
      let counted = releases_counted memory (take index ids) id (named_before named) in
      let kept = releases_keep memory (take index ids) id (named_before named) (omega (arith, counted, live)) in
      grind (arith, nat_tests, turn_next, used_step (state_after_releases memory (take index ids)) id live, kept.1)

-- what a loop over such a list needs
pub ruleset of_releases = (turn_next, turn_live, words_freed, take_all)
