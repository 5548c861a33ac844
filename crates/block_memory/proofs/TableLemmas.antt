-- Lemmas on the places of a table: a write under one key is a write at one number.
use Rattle.std.proofs.Common.{◌≡◌, ◌≢◌, ℕ, ◌+◌, ◌<◌, ◌≤◌, List, [], ◌∷◌, ◌++◌, length, slice_index_or, slice_index}
use Rattle.std.proofs.Common.{slice_set, Option, Some, None, is_some, IsSome, unwrap_or, replicate, zero, suc}
use Rattle.std.proofs.Common.{refl, sym, ap, ◌∙◌, arith, length-append, append_assoc, ◌-◌, rules}
use Rattle.std.proofs.lemmas.List.{get_or-set_same, get_or-set_other, get_or_default, get_or-map, get_or_append_left}
use Rattle.std.proofs.lemmas.List.Folds.{sum_by-replicate}
use Rattle.std.proofs.lemmas.List.Sums.{sum_by-append, sum_by_push}
use Rattle.std.proofs.lemmas.List.{get_or_push, length-map, length-replicate, length-set, map-append, set-append_left}
use Rattle.std.proofs.lemmas.List.{ext_get_or}
use Rattle.slab.specs.Slab.{Slab, get, slab_len, with_value, Updates}
use Rattle.slab.proofs.SlabLemmas.{Updates-with_value}
use Rattle.block_memory.specs.Table.{value_at, value_count}
use Rattle.block_memory.specs.TableInside.{value_under_key, places, all_places, AreKeys, AreVacant, IsTable}
use Rattle.block_memory.proofs.Lists.{IsSome-in_range, None-not_some, value_count-insert, value_count-remove}
use Rattle.block_memory.proofs.Lists.{value_count-set}

module _ {T : Type 0} where
  -- empty places at the end give no number a value
  pub value_at-filled : (slots : List (Option T)) (more n : ℕ) → value_at (slots ++ replicate more None) n
      ≡ value_at slots n
  value_at-filled [] zero n = refl
  value_at-filled [] (suc more) zero = refl
  value_at-filled [] (suc more) (suc n) = value_at-filled [] more n
  value_at-filled (o ∷ slots) more zero = refl
  value_at-filled (o ∷ slots) more (suc n) = value_at-filled slots more n

  pub value_count-filled : (slots : List (Option T)) (more : ℕ) → value_count (slots ++ replicate more None)
      ≡ value_count slots
  value_count-filled slots more = omega (arith, is_some, sum_by-append, sum_by-replicate)

  value_count-push : (slots : List (Option T)) (v : T) → value_count (slots ++ Some v ∷ []) ≡ value_count slots + 1
  value_count-push slots v = omega (arith, is_some, sum_by_push)

  set_at_end : (slots rest : List (Option T)) (n : ℕ) (old new : Option T) → length slots ≡ n
      → slice_set (slots ++ old ∷ rest) n new ≡ slots ++ new ∷ rest
  set_at_end [] rest zero old new e = refl
  set_at_end [] rest (suc n) old new e = absurd (omega (arith, e))
  set_at_end (o ∷ slots) rest zero old new e = absurd (omega (arith, e))
  set_at_end (o ∷ slots) rest (suc n) old new e = grind (arith, set_at_end slots rest n old new (omega (arith, e)))

  -- what a number has is what is marked under its key
  value_at-places : (entries : Slab (Option T)) (keys : List ℕ) (n : ℕ) → n < length keys
      → value_at (places entries keys) n ≡ value_under_key entries (slice_index keys n)
  value_at-places entries keys n h = grind (arith, get_or-map)

  value_under_key-written : (entries : Slab (Option T)) (key : ℕ) (v : Option T) → IsSome (get entries key)
      → value_under_key (with_value entries key v) key ≡ v
  value_under_key-written entries key v h = grind (arith, unwrap_or, Updates-with_value)

  value_under_key-other : (entries : Slab (Option T)) (key other : ℕ) (v : Option T) → IsSome (get entries key)
      → other ≢ key → value_under_key (with_value entries key v) other ≡ value_under_key entries other
  value_under_key-other entries key other v h d = search (rules, unwrap_or, Updates-with_value)

  different_keys : (entries : Slab (Option T)) (keys : List ℕ) → AreKeys entries keys → (m n : ℕ) → m < length keys
      → n < length keys → (m ≡ n → ⊥) → slice_index keys m ≢ slice_index keys n
  different_keys entries keys k m n hm hn d e = grind arith

  ruleset written = (value_at-places, value_under_key-written, value_under_key-other)

  -- a write under the key of a number is a write at the number
  places-with_value : (entries : Slab (Option T)) (keys : List ℕ) (n key : ℕ) (v : Option T) → AreKeys entries keys
      → n < length keys → key ≡ slice_index keys n
      → places (with_value entries key v) keys ≡ slice_set (places entries keys) n v
  places-with_value entries keys n key v k h e =
      let there : IsSome (get entries key) = grind arith in
      let lengths = length-map keys (value_under_key entries) in
      ext_get_or None (places (with_value entries key v) keys) (slice_set (places entries keys) n v)
      (grind (arith, length-map, length-set))
      (λ j below. grind (arith, written, length-map, different_keys, get_or-set_same, get_or-set_other))

ruleset vacancies = (length-append, slice_index, get_or_push, get_or_append_left, get_or-set_other, length-set)

-- a value goes to the empty number that comes next
AreVacant-pop : {T : Type 0} (slots : List (Option T)) (before after : List ℕ) (n : ℕ) (v : T)
    → AreVacant slots before → before ≡ after ++ n ∷ [] → AreVacant (slice_set slots n (Some v)) after
AreVacant-pop slots before after n v a e = grind (arith, vacancies, value_count-insert)

-- a number that had a value comes next
AreVacant-push : {T : Type 0} (slots : List (Option T)) (before : List ℕ) (n : ℕ) → AreVacant slots before
    → IsSome (value_at slots n) → AreVacant (slice_set slots n None) (before ++ n ∷ [])
AreVacant-push slots before n a h =
    grind (arith, vacancies, IsSome-in_range, None-not_some, is_some, get_or-set_same, value_count-remove)

-- the key that was read at a number
read_key : (keys : List ℕ) (n key : ℕ) → n < length keys → key ≡ slice_index_or keys n key → key ≡ slice_index keys n
read_key keys n key h e = e ∙ get_or_default keys n key 0 h

-- another value comes in the place of one
AreVacant-set : {T : Type 0} (slots : List (Option T)) (vacant : List ℕ) (n : ℕ) (v : T) → AreVacant slots vacant
    → IsSome (value_at slots n) → AreVacant (slice_set slots n (Some v)) vacant
AreVacant-set slots vacant n v a h =
    grind (arith, IsSome-in_range, slice_index, None-not_some, is_some, get_or-set_other, length-set, value_count-set)

module _ {T : Type 0} where
  key_present : (entries : Slab (Option T)) (keys : List ℕ) (n key : ℕ) → AreKeys entries keys → n < length keys
      → key ≡ slice_index keys n → IsSome (get entries key)
  key_present entries keys n key k h e = grind arith

  within_keys : (entries : Slab (Option T)) (keys : List ℕ) (n : ℕ) → n < length (places entries keys)
      → n < length keys
  within_keys entries keys n h = grind (arith, length-map)

  -- a number that has a value was used
  used : (entries : Slab (Option T)) (keys : List ℕ) (count n : ℕ)
      → IsSome (value_at (all_places entries keys count) n) → IsSome (value_at (places entries keys) n)
  used entries keys count n some = grind (arith, is_some, value_at-filled)

  -- a write at a number that was used
  all-with_value : (entries : Slab (Option T)) (keys : List ℕ) (count n key : ℕ) (v : Option T) → AreKeys entries keys
      → n < length keys → key ≡ slice_index keys n
      → all_places (with_value entries key v) keys count ≡ slice_set (all_places entries keys count) n v
  all-with_value entries keys count n key v k h is = grind (arith, length-map, places-with_value, set-append_left)

  length-all : (entries : Slab (Option T)) (keys : List ℕ) (count : ℕ) → length keys ≤ count
      → length (all_places entries keys count) ≡ count
  length-all entries keys count within = grind (arith, length-append, length-map, length-replicate)

  -- a table after a value was written under the key of a number, and the empty numbers with it
  IsTable-write : {entries : Slab (Option T)} {keys vacant : List ℕ} {key_room vacant_room count : ℕ}
      (n key : ℕ) (v : Option T) (vacant' : List ℕ) → IsTable entries keys vacant key_room vacant_room count
      → n < length keys → key ≡ slice_index keys n → AreVacant (slice_set (places entries keys) n v) vacant'
      → IsTable (with_value entries key v) keys vacant' key_room vacant_room count
  IsTable-write {entries} {keys} {key_room = key_room} {vacant_room} {count} n key v vacant' t h is are =
      let k = t.are_keys in
      let there = key_present entries keys n key k h is in
      record {
        are_keys = search (rules, arith, slice_index, is_some, Updates-with_value);
        are_vacant = rw (places-with_value entries keys n key v t.are_keys h is) are;
        rooms = let r = t.rooms in omega (arith, value_count-set);
      }

  -- what is known of the empty number that comes next, whose key was read
  pub record IsNext (entries : Slab (Option T)) (keys after : List ℕ) (key_room vacant_room count n key : ℕ)
      (slots : List (Option T)) : Type 0 where
    pub in_range : n < length slots
    pub vacant : value_at slots n ≡ None
    pub present : IsSome (get entries key)
    pub table : (v : T) → IsTable (with_value entries key (Some v)) keys after key_room vacant_room count
    pub inserted : (v : T) → all_places (with_value entries key (Some v)) keys count ≡ slice_set slots n (Some v)

  pub next : {entries : Slab (Option T)} {keys before : List ℕ} {key_room vacant_room count key : ℕ}
      {slots : List (Option T)} (after : List ℕ) (n : ℕ) → IsTable entries keys before key_room vacant_room count
      → all_places entries keys count ≡ slots → before ≡ after ++ n ∷ [] → key ≡ slice_index_or keys n key
      → IsNext entries keys after key_room vacant_room count n key slots
  next {entries} {keys} {before} {key_room} {vacant_room} {count} {key} after n t is e read =
      let vacant = t.are_vacant in
      let below : n < length (places entries keys) = grind (arith, length-append, slice_index, get_or_push) in
      let h = within_keys entries keys n below in
      let key_is = read_key keys n key h read in
      let there = key_present entries keys n key t.are_keys h key_is in
      record {
        in_range = rw (← is, length-all entries keys count t.rooms.within) (omega (arith, h, t.rooms.within));
        vacant = rw (← is) (grind (arith, slice_index, get_or_push, length-append, value_at-filled));
        present = there;
        table = λ v. IsTable-write n key (Some v) after t h key_is
            (AreVacant-pop (places entries keys) before after n v t.are_vacant e);
        inserted = λ v. rw (← is) (all-with_value entries keys count n key (Some v) t.are_keys h key_is);
      }

  -- a table after a removal
  pub IsTable-remove : (entries : Slab (Option T)) (keys before : List ℕ) (key_room vacant_room count n key : ℕ)
      → IsTable entries keys before key_room vacant_room count → IsSome (value_at (all_places entries keys count) n)
      → key ≡ slice_index_or keys n key
      → IsTable (with_value entries key None) keys (before ++ n ∷ []) key_room vacant_room count
  IsTable-remove entries keys before key_room vacant_room count n key t some read =
      let was = used entries keys count n some in
      let h = within_keys entries keys n (IsSome-in_range (places entries keys) n was) in
      IsTable-write n key None _ t h (read_key keys n key h read)
      (AreVacant-push (places entries keys) before n t.are_vacant was)

  -- a value is written at a number that has one, or has none
  pub places-write : (entries : Slab (Option T)) (keys : List ℕ) (count n key : ℕ) (v : Option T)
      → AreKeys entries keys → IsSome (value_at (all_places entries keys count) n) → key ≡ slice_index_or keys n key
      → all_places (with_value entries key v) keys count ≡ slice_set (all_places entries keys count) n v
  places-write entries keys count n key v k some read =
      grind (arith, used, within_keys, IsSome-in_range, all-with_value, read_key)

  -- a table after another value was put in the place of one
  pub IsTable-set : (entries : Slab (Option T)) (keys vacant : List ℕ) (key_room vacant_room count n key : ℕ) (v : T)
      → IsTable entries keys vacant key_room vacant_room count → IsSome (value_at (all_places entries keys count) n)
      → key ≡ slice_index_or keys n key
      → IsTable (with_value entries key (Some v)) keys vacant key_room vacant_room count
  IsTable-set entries keys vacant key_room vacant_room count n key v t some read =
      let was = used entries keys count n some in
      let h = within_keys entries keys n (IsSome-in_range (places entries keys) n was) in
      IsTable-write n key (Some v) _ t h (read_key keys n key h read)
      (AreVacant-set (places entries keys) vacant n v t.are_vacant was)

  -- a key that had no entry is no key of the list
  fresh_differs : (entries : Slab (Option T)) (keys : List ℕ) (key : ℕ) → AreKeys entries keys
      → get entries key ≡ None → (i : ℕ) → i < length keys → slice_index keys i ≢ key
  fresh_differs entries keys key k fresh i h same = grind arith

  -- one more entry, whose key is listed last
  pub AreKeys-push : (old new : Slab (Option T)) (keys : List ℕ) (key : ℕ) (v : Option T) → AreKeys old keys
      → get old key ≡ None → Updates old new key (Some v) → AreKeys new (keys ++ key ∷ [])
  AreKeys-push old new keys key v k fresh u =
      grind (arith, length-append, slice_index, get_or_append_left, get_or_push, is_some, fresh_differs)

  -- if no number that was used is empty, one is left that never was
  pub push-left : (entries : Slab (Option T)) (keys vacant : List ℕ) (key_room vacant_room count : ℕ)
      (slots : List (Option T)) → IsTable entries keys vacant key_room vacant_room count
      → all_places entries keys count ≡ slots → length vacant ≡ 0 → value_count slots < length slots
      → length keys < count
  push-left entries keys vacant key_room vacant_room count slots t is none few =
      grind (arith, length-map, value_count-filled, length-all)

  -- the place of one more key
  pub places-push : (old new : Slab (Option T)) (keys : List ℕ) (key : ℕ) (v : Option T) → AreKeys old keys
      → get old key ≡ None → Updates old new key (Some v)
      → places new (keys ++ key ∷ []) ≡ places old keys ++ v ∷ []
  places-push old new keys key v k fresh u =
      let same : places new keys ≡ places old keys =
      ext_get_or None (places new keys) (places old keys) (grind (arith, length-map))
      (λ i h. let within : i < length keys = grind (arith, length-map) in
      let differs = fresh_differs old keys key k fresh i within in grind (arith, value_at-places, unwrap_or)) in
      rw (map-append (value_under_key new) keys (key ∷ []), same) (grind (arith, unwrap_or))

  -- a table after one more place, with a value
  pub IsTable-push : (old new : Slab (Option T)) (keys more before after : List ℕ)
      (key_room new_room vacant_room count : ℕ) (v : T) → IsTable old keys before key_room vacant_room count
      → length keys < count → length before ≡ 0 → length after ≡ 0 → AreKeys new more
      → places new more ≡ places old keys ++ Some v ∷ [] → length more ≡ length keys + 1
      → slab_len new ≡ slab_len old + 1 → new.capacity ≡ old.capacity → new_room ≡ key_room
      → IsTable new more after new_room vacant_room count
  IsTable-push old new keys more before after key_room new_room vacant_room count v t less was none k is long entered
      room
      same = grind (arith, value_count-push, length-append)

  pub all-push : (old new : Slab (Option T)) (keys more : List ℕ) (count : ℕ) (slots : List (Option T)) (v : T)
      → length keys < count → all_places old keys count ≡ slots → places new more ≡ places old keys ++ Some v ∷ []
      → length more ≡ length keys + 1 → all_places new more count ≡ slice_set slots (length keys) (Some v)
  all-push old new keys more count slots v less was is long =
      let first : List (Option T) = places old keys in
      let size : length first ≡ length keys = length-map keys (value_under_key old) in
      let left : count - length keys ≡ suc (count - length more) = omega (arith, less, long) in
      ap (λ p. p ++ replicate (count - length more) None) is
      ∙ (append_assoc first (Some v ∷ []) (replicate (count - length more) None)
      ∙ (sym (set_at_end first (replicate (count - length more) None) (length keys) None (Some v) size)
      ∙ (ap (λ m. slice_set (first ++ replicate m None) (length keys) (Some v)) (sym left)
      ∙ ap (λ l. slice_set l (length keys) (Some v)) was)))

-- ---- what proofs of functions use

pub ruleset for_insert = (IsTable-push, all-push, push-left)

pub ruleset for_remove = (IsTable-remove, places-write)

pub ruleset for_set = (IsTable-set, places-write)

pub ruleset for_push_place = (AreKeys-push, places-push)
