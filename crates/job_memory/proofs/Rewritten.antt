-- A block that is written over, of which the last reference goes with others.
use Rattle.std.proofs.Common.{◌≡◌, ℕ, ℤ, ◌<◌, ◌≤◌, cond, eqb, List, [], ◌∷◌, length, ap, ◌∙◌}
use Rattle.std.proofs.Common.{arith}
use Rattle.std.proofs.lemmas.List.{set-set, set_comm, set-get_or, get_or_past, length-set}
use Rattle.refcounts.specs.SharedState.{Slot, SharedState, empty_slot, slot_in, slot_at, IsLive, with_slot, new_slot}
use Rattle.refcounts.specs.SharedState.{raised_slot, lowered_slot, state_after_share, state_after_release}
use Rattle.refcounts.specs.SharedState.{state_after_releases, occurrences, AreNamed}
use Rattle.refcounts.specs.Owners.{slots_seen_by}
use Rattle.refcounts.specs.Laws.{ReleasesAreCounted, ReleasesKeepBlocks}
use Rattle.job_memory.specs.JobBlocks.{JobBlocks, AreOwn, with_memory, with_block}
use Rattle.job_memory.proofs.Slots.{put, live_within, own_count, own_owner, own_shared, seen_at, seen_put}
use Rattle.job_memory.proofs.Turns.{count_shared}

-- what a number had before releases doesn't matter once something else is put there
release_put : (m : SharedState) (id first : ℕ) (s : Slot)
    → state_after_release (with_slot m id s) first ≡ with_slot (state_after_release m first) id
    (cond (eqb first id) (lowered_slot (slot_at (with_slot m id s) id)) s)
release_put m id first s =
    let twice = λ (t u : Slot). set-set m.slots id t u in
    let apart = set_comm m.slots id first s (lowered_slot (slot_at m first)) in
    grind (arith, put, twice, apart)

releases_put : (m : SharedState) (id : ℕ) (s u : Slot) (ids : List ℕ)
    → with_slot (state_after_releases (with_slot m id s) ids) id u ≡ with_slot (state_after_releases m ids) id u
releases_put m id s u [] = let twice = set-set m.slots id s u in cc
releases_put m id s u (first ∷ ids) =
    ap (λ (n : SharedState). with_slot (state_after_releases n ids) id u) (release_put m id first s)
    ∙ releases_put (state_after_release m first) id _ u ids

-- nor whether it was shared before
pub releases_shared : (m : SharedState) (id : ℕ) (u : Slot) (ids : List ℕ)
    → with_slot (state_after_releases (state_after_share m id) ids) id u
    ≡ with_slot (state_after_releases m ids) id u
releases_shared m id u ids = releases_put m id (raised_slot (slot_at m id)) u ids

-- a number that is empty if no reference names it
abbrev IsTidyAt : SharedState → ℕ → Type 0
IsTidyAt m id = (slot_at m id).count ≡ 0 → slot_at m id ≡ empty_slot

tidy_release : (m : SharedState) (id first : ℕ) → IsTidyAt m id → IsTidyAt (state_after_release m first) id
tidy_release m id first tidy none = grind (arith, put, get_or_past, length-set)

tidy_releases : (m : SharedState) (id : ℕ) (ids : List ℕ) → IsTidyAt m id → IsTidyAt (state_after_releases m ids) id
tidy_releases m id [] tidy = tidy
tidy_releases m id (first ∷ ids) tidy =
    tidy_releases (state_after_release m first) id ids (tidy_release m id first tidy)

-- what is known of a block whose last reference goes with others
pub record IsTurnedOver (job id : ℕ) (taken : List ℕ) (blocks : JobBlocks) : Type 0 where
  pub owned : (slot_at blocks.memory id).owner ≡ job
  pub own : AreOwn job (with_memory blocks (state_after_share blocks.memory id)) taken
  pub left : slot_at (state_after_releases (state_after_share blocks.memory id) taken) id
      ≡ new_slot job (slot_at blocks.memory id).words
  pub within : id < length blocks.memory.slots
  pub fresh : slot_at (state_after_releases blocks.memory taken) id ≡ empty_slot

pub turned_over : ReleasesAreCounted → ReleasesKeepBlocks → (job id : ℕ) (taken : List ℕ) (blocks : JobBlocks)
    → AreOwn job blocks taken → 1 ≤ occurrences id taken → (slot_at blocks.memory id).count ≡ 1
    → IsTurnedOver job id taken blocks
turned_over are_counted kept job id taken blocks own listed single =
    let m : SharedState = blocks.memory in
    let n : SharedState = state_after_share m id in
    let live : IsLive m id = omega (arith, single) in
    let named : AreNamed m taken = λ k. omega (arith, own k, own_count job m k) in
    let named_then : AreNamed n taken = λ k. omega (arith, named k, (count_shared m id k live).0) in
    let here : slot_at n id ≡ raised_slot (slot_at m id) = grind (arith, put) in
    let two : (slot_at n id).count ≡ 2 = grind (arith, single, here) in
    let once : occurrences id taken ≡ 1 = omega (arith, listed, named id, single) in
    let keeps = kept n taken id named_then (omega (arith, once, two)) in
    let owned = own_owner job m id (omega (arith, own id, listed)) in
    record {
      owned = owned;
      own = λ k. omega (arith, own k, own_shared job m id k live);
      left = grind (arith, are_counted n taken id named_then, once, two, keeps, here, owned);
      within = live_within m.slots id live;
      fresh =
          tidy_releases m id taken (λ none. absurd (omega (arith, none, single)))
          (omega (arith, are_counted m taken id named, once, single));
    }

-- what is known of such a block that is written over before
pub record IsHandedOver (job id : ℕ) (taken : List ℕ) (words : List ℤ) (old written : JobBlocks) : Type 0 where
  pub own : AreOwn job (with_memory written (state_after_share written.memory id)) taken
  pub same : with_memory written (state_after_releases (state_after_share written.memory id) taken)
      ≡ with_block (with_memory old (state_after_releases old.memory taken)) job id words

pub handed_over : ReleasesAreCounted → ReleasesKeepBlocks → (job id : ℕ) (taken : List ℕ) (words : List ℤ)
    (old written : JobBlocks) → AreOwn job old taken → 1 ≤ occurrences id taken → (slot_at old.memory id).count ≡ 1
    → written ≡ with_block old (slot_at old.memory id).owner id words → IsHandedOver job id taken words old written
handed_over are_counted kept job id taken words old written own listed single is =
    let s : Slot = new_slot job words in
    let owned = own_owner job old.memory id (omega (arith, own id, listed)) in
    let memory : written.memory ≡ with_slot old.memory id s = grind (arith, is, owned) in
    let here : slot_at written.memory id ≡ s = grind (arith, put) in
    let own_then : AreOwn job written taken = λ k. own_written job id k _ words old.memory written.memory (own k) single
    memory in
    let known = turned_over are_counted kept job id taken written own_then listed (grind (arith, here)) in
    let left : SharedState = state_after_releases (state_after_share written.memory id) taken in
    let there = set-get_or left.slots id empty_slot in
    let shared = releases_shared written.memory id s taken in
    let before = releases_put old.memory id s s taken in
    record {
      own = known.own;
      same = grind (arith, here, there, shared, before, known.left);
    }
  where
    -- other words change nothing of what the job owns
    own_written : (job id k n : ℕ) (words : List ℤ) (old written : SharedState)
        → n ≤ (slot_in (slots_seen_by job old) k).count → (slot_at old id).count ≡ 1
        → written ≡ with_slot old id (new_slot job words) → n ≤ (slot_in (slots_seen_by job written) k).count
    own_written job id k n words old written own single is =
        let set = seen_put job old id (new_slot job words) in grind (arith, put, seen_at, own_count job old k)
