-- A counted block that was made, or written over, with words that something wrote.
use Rattle.std.specs.Prelude.{◌≡◌, ℕ, ℤ, ◌<◌, List, length}
use Rattle.refcounts.specs.SharedState.{SharedState, empty_slot, slot_at, with_slot, new_slot}

-- the words of a block
abbrev pub words_at : SharedState → ℕ → List ℤ
words_at memory id = (slot_at memory id).words

-- a number that had no block has one of this owner and length, with one reference, whose words have this property
pub record IsMadeWith (old new : SharedState) (id owner len : ℕ) (is : List ℤ → Type 0) : Type 0 where
  pub words : List ℤ
  pub in_range : id < length old.slots
  pub empty : slot_at old id ≡ empty_slot
  pub long : length words ≡ len
  pub so : is words
  pub made : new ≡ with_slot old id (new_slot owner words)

-- the block of a number has other words, as many as before and with one reference, which have this property
pub record IsRewrittenWith (old new : SharedState) (id : ℕ) (is : List ℤ → Type 0) : Type 0 where
  pub words : List ℤ
  pub same_length : length words ≡ length (words_at old id)
  pub so : is words
  pub rewritten : new ≡ with_slot old id (new_slot (slot_at old id).owner words)
