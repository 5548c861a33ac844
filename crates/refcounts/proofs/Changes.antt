-- Which calls change only one owner's blocks, and what each owner sees of them.
use Rattle.std.proofs.Common.{◌≡◌, ℕ, ◌<◌, ◌≤◌, List, [], ◌∷◌, length, map, set, refl, ◌∙◌, inl, inr, arith}
use Rattle.std.proofs.Common.{suc}
use Rattle.std.specs.Prelude.{◌⊎◌}
use Rattle.std.proofs.lemmas.Bool.Decides.{nat_tests}
use Rattle.std.proofs.lemmas.List.{length-set, length-map, map-set, set-get_or}
use Rattle.std.proofs.lemmas.List.Sums.{sum_by-set}
use Rattle.std.proofs.Math.ListN.{get_or-map}
use Rattle.refcounts.specs.SharedState.{Slot, empty_slot, SharedState, slot_in, slot_at, with_slot, new_slot}
use Rattle.refcounts.specs.SharedState.{raised_slot, lowered_slot, state_after_share, state_after_release, IsLive}
use Rattle.refcounts.specs.SharedState.{occurrences}
use Rattle.refcounts.specs.Owners.{slot_seen_by, slots_seen_by, ChangesOnly}
use Rattle.refcounts.specs.Laws.{IsOwn, MakingChangesOnlyOwn, SharingChangesOnlyOwn, ReleasingChangesOnlyOwn}
use Rattle.refcounts.proofs.Puts.{put, listed}

-- The memory as an owner sees it.
slot_seen : (owner : ℕ) (slots : List Slot) (id : ℕ)
    → slot_in (map (slot_seen_by owner) slots) id ≡ slot_seen_by owner (slot_in slots id)
slot_seen owner slots id =
    let none : slot_seen_by owner empty_slot ≡ empty_slot = grind (arith, nat_tests) in
    let at = get_or-map (slot_seen_by owner) slots id empty_slot in grind arith

put_seen : (owner : ℕ) (memory : SharedState) (id : ℕ) (slot : Slot)
    → slots_seen_by owner (with_slot memory id slot) ≡ set (slots_seen_by owner memory) id (slot_seen_by owner slot)
put_seen owner memory id slot = map-set (slot_seen_by owner) memory.slots id slot

-- an owner's own block is there
own_live : (owner : ℕ) (memory : SharedState) (id : ℕ) → IsOwn owner memory id
    → IsLive memory id × ((slot_at memory id).owner ≡ owner)
own_live owner memory id own = grind (arith, nat_tests, slot_seen)

-- One slot changed, which is empty or the owner's before and after. Others see nothing of it.
others_put : (other : ℕ) (memory : SharedState) (id : ℕ) (slot : Slot)
    → slot_seen_by other (slot_at memory id) ≡ empty_slot → slot_seen_by other slot ≡ empty_slot
    → slots_seen_by other (with_slot memory id slot) ≡ slots_seen_by other memory
others_put other memory id slot before after =
    let set = put_seen other memory id slot in
    let same = set-get_or (slots_seen_by other memory) id empty_slot in grind (arith, slot_seen)

abbrev IsOf : ℕ → Slot → Type 0
IsOf owner slot = (slot ≡ empty_slot) ⊎ (slot.owner ≡ owner)

changes_put : (owner : ℕ) (memory : SharedState) (id : ℕ) (slot : Slot) → id < length memory.slots
    → IsOf owner (slot_at memory id) → IsOf owner slot → ChangesOnly owner memory (with_slot memory id slot)
changes_put owner memory id slot within before after = record {
  balance = λ measure.
      let all = sum_by-set measure memory.slots id slot empty_slot in
      let own = sum_by-set measure (slots_seen_by owner memory) id (slot_seen_by owner slot) empty_slot in
      let seen = put_seen owner memory id slot in grind (arith, nat_tests, all, own, length-map, slot_seen);
  others = λ other ne. others_put other memory id slot (grind (arith, nat_tests)) (grind (arith, nat_tests));
  room = refl;
  ids = length-set memory.slots id slot;
}

-- several changes, one after the other
changes_then : (owner : ℕ) (a b c : SharedState) → ChangesOnly owner a b → ChangesOnly owner b c
    → ChangesOnly owner a c
changes_then owner a b c x y = record {
  balance = λ measure. omega (arith, x.balance measure, y.balance measure);
  others = λ other ne. y.others other ne ∙ x.others other ne;
  room = y.room ∙ x.room;
  ids = y.ids ∙ x.ids;
}

changes_none : (owner : ℕ) (memory : SharedState) → ChangesOnly owner memory memory
changes_none owner memory = record { balance = λ measure. refl; others = λ other ne. refl; room = refl; ids = refl }

-- a block that is made
pub changes_made : MakingChangesOnlyOwn
changes_made owner memory id words within empty =
    changes_put owner memory id (new_slot owner words) within (inl empty) (inr refl)

-- blocks that are shared one by one
changes_shared : (owner : ℕ) (memory : SharedState) (id : ℕ) → IsOwn owner memory id
    → ChangesOnly owner memory (state_after_share memory id)
changes_shared owner memory id own =
    let live = own_live owner memory id own in
    changes_put owner memory id _ (grind (arith, put)) (inr live.1) (inr live.1)

own_shared : (owner : ℕ) (memory : SharedState) (first id : ℕ)
    → IsOwn owner memory first → IsOwn owner memory id → IsOwn owner (state_after_share memory first) id
own_shared owner memory first id own here =
    let set = put_seen owner memory first (raised_slot (slot_at memory first)) in grind (arith, put, slot_seen)

pub changes_shares : SharingChangesOnlyOwn
changes_shares owner memory [] own = changes_none owner memory
changes_shares owner memory (first ∷ ids) own =
    changes_then owner memory (state_after_share memory first) _
    (changes_shared owner memory first (own 0 0 (omega arith)))
    (changes_shares owner (state_after_share memory first) ids
    (λ k d within. own_shared owner memory first _ (own 0 d (omega arith)) (own (suc k) d (omega arith))))

-- blocks that are released one by one
changes_released : (owner : ℕ) (memory : SharedState) (id : ℕ) → IsOwn owner memory id
    → ChangesOnly owner memory (state_after_release memory id)
changes_released owner memory id own =
    let live = own_live owner memory id own in
    changes_put owner memory id _ (grind (arith, put)) (inr live.1) (grind (arith, nat_tests, live.1))

own_released : (owner : ℕ) (memory : SharedState) (first : ℕ) (ids : List ℕ)
    → ((id : ℕ) → occurrences id (first ∷ ids) ≤ (slot_in (slots_seen_by owner memory) id).count) → (id : ℕ)
    → occurrences id ids ≤ (slot_in (slots_seen_by owner (state_after_release memory first)) id).count
own_released owner memory first ids named id =
    let set = put_seen owner memory first (lowered_slot (slot_at memory first)) in
    grind (arith, put, slot_seen, named first, named id, listed first first ids, listed id first ids)

pub changes_releases : ReleasingChangesOnlyOwn
changes_releases owner memory [] named = changes_none owner memory
changes_releases owner memory (first ∷ ids) named =
    let own : IsOwn owner memory first = grind (arith, nat_tests, named first, listed first first ids) in
    changes_then owner memory (state_after_release memory first) _ (changes_released owner memory first own)
    (changes_releases owner (state_after_release memory first) ids (own_released owner memory first ids named))
