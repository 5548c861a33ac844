-- Lemmas on the places of blocks.
use Rattle.std.proofs.Common.{◌≡◌, ◌≢◌, ◌⊎◌, ℕ, ◌+◌, ◌<◌, ◌≤◌, List, length, take, drop, slice_index_or, slice_set}
use Rattle.std.proofs.Common.{Option, Some, None, is_some, refl, sym, ◌∙◌, arith, rules}
use Rattle.std.proofs.lemmas.List.{get_or-take, get_or-drop, length-take-le, length-drop, ext_get_or, get_or-set_same}
use Rattle.std.proofs.lemmas.List.{get_or-set_other}
use Rattle.std.proofs.Math.ListN.{get_or-map}
use Rattle.block_memory.specs.Content.{block_at, block_count, words_at as content_words_at}
use Rattle.block_memory.specs.Table.{value_at, value_count}
use Rattle.block_memory.specs.Layout.{PlacedBlock, Covers, IsClear, block_of, content_of, words_at}
use Rattle.block_memory.specs.Region.{AreApart, AreWithin}
use Rattle.block_memory.proofs.Lists.{same_some, value_count-map}

module _ {X : Type 0} where
  -- as many elements as are there
  pub length-part : (xs : List X) (from len : ℕ) → from + len ≤ length xs → length (take len (drop from xs)) ≡ len
  length-part xs from len h = grind (arith, length-drop, length-take-le)

  get_or-part : (xs : List X) (from len i : ℕ) (d : X) → i < len
      → slice_index_or (take len (drop from xs)) i d ≡ slice_index_or xs (from + i) d
  get_or-part xs from len i d h = grind (arith, get_or-take, get_or-drop)

  -- a part of two lists that are alike there
  pub same_part : (xs ys : List X) (from len : ℕ) (d : X) → from + len ≤ length xs → from + len ≤ length ys
      → ((i : ℕ) → i < len → slice_index_or xs (from + i) d ≡ slice_index_or ys (from + i) d)
      → take len (drop from xs) ≡ take len (drop from ys)
  same_part xs ys from len d hx hy same =
      let lx = length-part xs from len hx in
      let ly = length-part ys from len hy in
      ext_get_or d (take len (drop from xs)) (take len (drop from ys)) (lx ∙ sym ly)
      (λ i h. let below : i < len = omega arith in
      get_or-part xs from len i d below ∙ (same i below ∙ sym (get_or-part ys from len i d below)))

  -- what a number has after a write at a number in range
  pub value_at-set_same : (xs : List (Option X)) (n : ℕ) (v : Option X) → n < length xs
      → value_at (slice_set xs n v) n ≡ v
  value_at-set_same xs n v h = get_or-set_same xs n v None h

  pub value_at-set_other : (xs : List (Option X)) (n k : ℕ) (v : Option X) → k ≢ n
      → value_at (slice_set xs n v) k ≡ value_at xs k
  value_at-set_other xs n k v h = get_or-set_other xs n k v None h

-- a block that covers a word after what the number has was changed: the new one, or another as before
pub Covers-set : (slots : List (Option PlacedBlock)) (n : ℕ) {k word : ℕ} (p : PlacedBlock) → n < length slots →
    Covers (slice_set slots n (Some p)) k word → ((k ≡ n) × ((p.place ≤ word) × (word < p.place + p.len))) ⊎ ((k ≢ n)
    × Covers slots k word)
Covers-set slots n p within c = grind (arith, same_some, slice_set, value_at-set_same, value_at-set_other)

pub Covers-set_here : (slots : List (Option PlacedBlock)) {n word : ℕ} (p : PlacedBlock) → n < length slots → p.place
    ≤ word → word < p.place + p.len → Covers (slice_set slots n (Some p)) n word
Covers-set_here slots p within from below = search (rules, value_at-set_same)

pub Covers-set_other : {slots : List (Option PlacedBlock)} (n : ℕ) {k word : ℕ} (o : Option PlacedBlock) → k ≢ n →
    Covers slots k word → Covers (slice_set slots n o) k word
Covers-set_other n o other c = grind (arith, value_at-set_other)

-- a block that covers a word after one was taken away is another, as before
pub Covers-set_none : (slots : List (Option PlacedBlock)) (n : ℕ) {k word : ℕ} → n < length slots → Covers (slice_set
    slots n None) k word → (k ≢ n) × Covers slots k word
Covers-set_none slots n within c = grind (arith, value_at-set_same, slice_set, value_at-set_other)

-- a block covers no word but those from its place on
pub Covers-by : {slots : List (Option PlacedBlock)} {n word : ℕ} (p : PlacedBlock) → value_at slots n ≡ Some p →
    Covers slots n word → (p.place ≤ word) × (word < p.place + p.len)
Covers-by p there c = grind arith

-- blocks that lie apart still do after one was put to a place at which it covers no word of another
pub AreApart-set : (slots : List (Option PlacedBlock)) (n : ℕ) (p : PlacedBlock) → n < length slots → AreApart slots
    → IsClear slots n p.place p.len → AreApart (slice_set slots n (Some p))
AreApart-set slots n p within apart clear k m word a b =
    let first = Covers-set slots n p within a in
    let second = Covers-set slots n p within b in
    let both = apart k m word in
    let of_first = clear k word in
    let of_second = clear m word in
    grind arith

-- blocks that lie in the region, and one that is put into it
pub AreWithin-set : (slots : List (Option PlacedBlock)) (size n : ℕ) (p : PlacedBlock) → n < length slots
    → AreWithin slots size → (p.place + p.len ≤ size) × (p.len ≤ length p.words)
    → AreWithin (slice_set slots n (Some p)) size
AreWithin-set slots size n p within all fits k q there =
    let found = all k q in grind (arith, same_some, slice_set, value_at-set_same, value_at-set_other)

pub AreWithin-set_none : (slots : List (Option PlacedBlock)) (size n : ℕ) → n < length slots → AreWithin slots size
    → AreWithin (slice_set slots n None) size
AreWithin-set_none slots size n within all k q there =
    let found = all k q in grind (arith, value_at-set_same, slice_set, value_at-set_other)

-- what the region contains at a number
pub block_at-content_of : (slots : List (Option PlacedBlock)) (n : ℕ)
    → block_at (content_of slots) n ≡ block_of (value_at slots n)
block_at-content_of slots n = get_or-map block_of slots n None

pub words_at-content_of : (slots : List (Option PlacedBlock)) (n : ℕ)
    → content_words_at (content_of slots) n ≡ words_at slots n
words_at-content_of slots n = grind (arith, block_at-content_of)

is_some-block_of : (o : Option PlacedBlock) → is_some (block_of o) ≡ is_some o
is_some-block_of None = refl
is_some-block_of (Some p) = refl

pub is_some-content_of : (slots : List (Option PlacedBlock)) (n : ℕ)
    → is_some (block_at (content_of slots) n) ≡ is_some (value_at slots n)
is_some-content_of slots n = grind (arith, is_some, block_at-content_of, is_some-block_of)

pub block_count-content_of : (slots : List (Option PlacedBlock)) → block_count (content_of slots) ≡ value_count slots
block_count-content_of slots = value_count-map block_of is_some-block_of slots
