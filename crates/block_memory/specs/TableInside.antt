-- How a table keeps its places: the entry of the slab under each number's key, and the numbers that are empty.
use Rattle.std.specs.Prelude.{◌≡◌, ◌≢◌, ℕ, ◌+◌, ◌-◌, ◌<◌, ◌≤◌, ◌++◌, List, map, length, replicate, slice_index, Option}
use Rattle.std.specs.Prelude.{None, IsSome, unwrap_or}
use Rattle.slab.specs.Slab.{Slab, get, slab_len}
use Rattle.block_memory.specs.Table.{value_at, value_count}

module _ {T : Type 0} where
  -- what the entry under a key is marked with: a value, or nothing
  abbrev pub value_under_key : Slab (Option T) → ℕ → Option T
  value_under_key entries key = unwrap_or (get entries key) None

  -- the places in the order of their keys
  abbrev pub places : Slab (Option T) → List ℕ → List (Option T)
  places entries keys = map (value_under_key entries) keys

  -- the same, and after them those of the numbers that were never used
  abbrev pub all_places : Slab (Option T) → List ℕ → ℕ → List (Option T)
  all_places entries keys count = places entries keys ++ replicate (count - length keys) None

  -- each key has an entry, and no key is listed twice
  pub record AreKeys (entries : Slab (Option T)) (keys : List ℕ) : Type 0 where
    pub present : (n : ℕ) → n < length keys → IsSome (get entries (slice_index keys n))
    pub distinct : (m n : ℕ) → m < n → n < length keys → slice_index keys m ≢ slice_index keys n

-- numbers that are empty, none of them twice, and as many as have no value
pub record AreVacant {T : Type 0} (slots : List (Option T)) (vacant : List ℕ) : Type 0 where
  pub empty : (i : ℕ) → i < length vacant → value_at slots (slice_index vacant i) ≡ None
  pub in_range : (i : ℕ) → i < length vacant → slice_index vacant i < length slots
  pub distinct : (i j : ℕ) → i < j → j < length vacant → slice_index vacant i ≢ slice_index vacant j
  pub count : length vacant + value_count slots ≡ length slots

-- there is room for as many entries and keys as there are numbers, and for all of them in the list of the empty ones
pub record HasRooms {T : Type 0} (entries : Slab (Option T)) (keys : List ℕ) (key_room vacant_room count : ℕ)
    : Type 0
  where
    pub within : length keys ≤ count
    pub entered : slab_len entries ≡ length keys
    pub entries_fit : count ≤ entries.capacity
    pub keys_fit : count ≤ key_room
    pub vacant_fit : count ≤ vacant_room

-- the keys and the empty numbers are in order, and there is room for those to come
pub record IsTable {T : Type 0} (entries : Slab (Option T)) (keys vacant : List ℕ) (key_room vacant_room count : ℕ)
    : Type 0 where
  pub are_keys : AreKeys entries keys
  pub are_vacant : AreVacant (places entries keys) vacant
  pub rooms : HasRooms entries keys key_room vacant_room count
