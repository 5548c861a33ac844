-- The words of a job's blocks, and of all blocks, when one slot changes.
use Rattle.std.proofs.Common.{◌≡◌, ℕ, ◌+◌, ◌<◌, ◌≤◌, List, ◌∷◌, length, set, map, refl, ap, arith, zero, suc}
use Rattle.std.specs.Prelude.{replicate}
use Rattle.std.proofs.lemmas.Bool.Decides.{nat_tests}
use Rattle.std.proofs.lemmas.List.{get_or_past, get_or-set_other, length-map, map-set}
use Rattle.std.proofs.lemmas.List.Sums.{sum_by-set}
use Rattle.std.proofs.lemmas.Grind.{get_or-set_at}
use Rattle.std.proofs.Math.ListN.{get_or-map}
use Rattle.refcounts.specs.SharedState.{Slot, empty_slot, SharedState, slot_in, slot_at, words_in, used_words}
use Rattle.refcounts.specs.SharedState.{with_slot, raised_slot, state_after_share, IsLive}
use Rattle.refcounts.specs.Owners.{slot_seen_by, slots_seen_by, ChangesOnly}
use Rattle.job_memory.specs.JobBlocks.{JobBlocks, ChangesOnlyOf, with_memory}

-- The slots as a job sees them.
none_seen : (job : ℕ) → slot_seen_by job empty_slot ≡ empty_slot
none_seen job = grind (arith, nat_tests)

pub seen_at : (job : ℕ) (slots : List Slot) (id : ℕ)
    → slot_in (map (slot_seen_by job) slots) id ≡ slot_seen_by job (slot_in slots id)
seen_at job slots id =
    let none = none_seen job in let at = get_or-map (slot_seen_by job) slots id empty_slot in grind arith

pub seen_put : (job : ℕ) (memory : SharedState) (id : ℕ) (slot : Slot)
    → slots_seen_by job (with_slot memory id slot) ≡ set (slots_seen_by job memory) id (slot_seen_by job slot)
seen_put job memory id slot = map-set (slot_seen_by job) memory.slots id slot

pub no_slots_seen : (job n : ℕ) → map (slot_seen_by job) (replicate n empty_slot) ≡ replicate n empty_slot
no_slots_seen job zero = refl
no_slots_seen job (suc n) = let none = none_seen job in let rest = no_slots_seen job n in cc

-- One slot changes.
pub live_within : (slots : List Slot) (id : ℕ) → 0 < (slot_in slots id).count → id < length slots
live_within slots id live = grind (arith, get_or_past)

pub ruleset put = (nat_tests, live_within, get_or-set_at, get_or-set_other)

pub used_put : (memory : SharedState) (id : ℕ) (slot : Slot) → id < length memory.slots
    → used_words (with_slot memory id slot) + length (slot_at memory id).words ≡ used_words memory + length slot.words
used_put memory id slot within = sum_by-set (λ (s : Slot). length s.words) memory.slots id slot empty_slot within

pub held_put : (job : ℕ) (memory : SharedState) (id : ℕ) (slot : Slot) → id < length memory.slots
    → words_in (slots_seen_by job (with_slot memory id slot)) + length (slot_seen_by job (slot_at memory id)).words
    ≡ words_in (slots_seen_by job memory) + length (slot_seen_by job slot).words
held_put job memory id slot within =
    let put = seen_put job memory id slot in
    let sum =
    sum_by-set (λ (s : Slot). length s.words) (slots_seen_by job memory) id (slot_seen_by job slot) empty_slot in
    grind (arith, length-map, seen_at)

-- A job sees no references that aren't there, and those of no block but its own; a share takes none away that it sees.
pub own_count : (job : ℕ) (memory : SharedState) (id : ℕ)
    → (slot_in (slots_seen_by job memory) id).count ≤ (slot_at memory id).count
own_count job memory id = grind (arith, nat_tests, seen_at)

pub own_owner : (job : ℕ) (memory : SharedState) (id : ℕ) → 0 < (slot_in (slots_seen_by job memory) id).count
    → (slot_at memory id).owner ≡ job
own_owner job memory id some = grind (arith, nat_tests, seen_at)

pub own_shared : (job : ℕ) (memory : SharedState) (first id : ℕ) → IsLive memory first
    → (slot_in (slots_seen_by job memory) id).count
    ≤ (slot_in (slots_seen_by job (state_after_share memory first)) id).count
own_shared job memory first id live =
    let set = seen_put job memory first (raised_slot (slot_at memory first)) in grind (arith, put, seen_at)

-- what changes one job's blocks alone changes no grant
pub only_blocks : (job : ℕ) (blocks : JobBlocks) (memory : SharedState) → ChangesOnly job blocks.memory memory
    → ChangesOnlyOf job blocks (with_memory blocks memory)
only_blocks job blocks memory changes = record {
  memory = changes;
  grants = λ other one ne. refl;
  granted = refl;
  jobs = refl;
}
