-- A run that has executed nothing.
use Rattle.std.proofs.Common.{◌≡◌, ℕ, zero, suc, ◌+◌, ◌≤◌, cond, List, ◌∷◌, map, replicate, get_or, None, refl, ap}
use Rattle.std.proofs.Common.{arith}
use Rattle.std.specs.Prelude.{nat_lt}
use Rattle.std.proofs.lemmas.Grind.{common_steps}
use Rattle.std.proofs.lemmas.List.Folds.{sum_by-replicate}
use Rattle.std.proofs.lemmas.List.{length-replicate}
use Rattle.vcode_base.specs.declared.rule.Rule.{Rule}
use Rattle.refcounts.specs.SharedState.{Slot, empty_slot}
use Rattle.refcounts.specs.Owners.{slot_seen_by}
use Rattle.job_memory.specs.JobBlocks.{JobBlocks, ChangesOnlyOf}
use Rattle.job_steps.specs.Standings.{Live}
use Rattle.job_steps.specs.States.{JobValue, Task, ruled}
use Rattle.job_slots.specs.Laws.{NewIsShown}
use Rattle.job_slots.specs.Slots.{SlotState, IsNewSlot, Shows, standing_of}
use Rattle.job_profile.specs.SoundRun.{IsSound}

get_replicate : {X : Type 0} (n k : ℕ) (x : X) → get_or (replicate n x) k x ≡ x
get_replicate n k x = grind (arith, common_steps)

none_seen : (n : ℕ) → map (slot_seen_by 1) (replicate n empty_slot) ≡ replicate n empty_slot
none_seen zero = refl
none_seen (suc n) = ap (λ (slots : List Slot). empty_slot ∷ slots) (none_seen n)

pub first_shows : NewIsShown → (rule : Rule) (blocks : JobBlocks) (region most : ℕ) (job : JobValue)
    (slot : SlotState) → blocks.memory ≡ record { room = region; slots = replicate most empty_slot } →
    blocks.grants ≡ replicate 1 None → IsNewSlot job slot → Shows 1 blocks (ruled rule job) slot
first_shows law rule blocks region most job slot memory grants new = grind (arith, none_seen, get_replicate)

pub first_sound : (task : Task) (old new : JobBlocks) (after : SlotState) (desk region most : ℕ) →
    old.memory ≡ record { room = region; slots = replicate most empty_slot } → ChangesOnlyOf 1 old new →
    Shows 1 new task after → standing_of after ≡ Live 0 → most ≡ task.limits.cells + 2 → task.limits.words ≤ desk →
    IsSound task new after desk
first_sound task old new after desk region most memory changes shows live enough words =
    let balance = changes.memory.balance (λ (slot : Slot). cond (nat_lt 0 slot.count) 1 0) in
    grind (arith, none_seen, sum_by-replicate, length-replicate)
