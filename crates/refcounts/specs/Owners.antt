-- A memory of counted blocks as one owner sees it, and that only one owner's blocks change.
use Rattle.std.specs.Prelude.{◌≡◌, ◌≢◌, ℕ, ◌+◌, ◌==◌, if◌then◌else◌, List, length, map, sum_by}
use Rattle.refcounts.specs.SharedState.{Slot, empty_slot, SharedState}

-- a slot as one owner sees it: empty if the block is another's
abbrev pub slot_seen_by : ℕ → Slot → Slot
slot_seen_by owner slot = if slot.owner == owner then slot else empty_slot

-- the slots as one owner sees them
abbrev pub slots_seen_by : ℕ → SharedState → List Slot
slots_seen_by owner memory = map (slot_seen_by owner) memory.slots

-- Only an owner's blocks changed. Each measure of slots, as the words of a block or whether there is one, rises or
-- falls
-- over all slots as it does over the owner's.
pub record ChangesOnly (owner : ℕ) (old new : SharedState) : Type 0 where
  pub balance : (measure : Slot → ℕ) → sum_by measure new.slots + sum_by measure (slots_seen_by owner old) ≡ sum_by
      measure old.slots + sum_by measure (slots_seen_by owner new)
  pub others : (other : ℕ) → other ≢ owner → slots_seen_by other new ≡ slots_seen_by other old
  pub room : new.room ≡ old.room
  pub ids : length new.slots ≡ length old.slots
