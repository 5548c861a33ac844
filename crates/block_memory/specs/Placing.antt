-- A block that was placed, or written over, with words that something wrote.
use Rattle.std.specs.Prelude.{◌≡◌, ℕ, ℤ, ◌<◌, List, length, None}
use Rattle.block_memory.specs.Content.{Content, block_at, owner_at, words_at, with_block}

-- a number that had no block has one of this owner and length, whose words have this property
pub record IsPlacedWith (old new : Content) (id owner len : ℕ) (is : List ℤ → Type 0) : Type 0 where
  pub words : List ℤ
  pub in_range : id < length old
  pub empty : block_at old id ≡ None
  pub long : length words ≡ len
  pub so : is words
  pub placed : new ≡ with_block old id (record { owner = owner; words = words })

-- the block of a number has other words, as many as before, which have this property
pub record IsRewrittenWith (old new : Content) (id : ℕ) (is : List ℤ → Type 0) : Type 0 where
  pub words : List ℤ
  pub same_length : length words ≡ length (words_at old id)
  pub so : is words
  pub rewritten : new ≡ with_block old id (record { owner = owner_at old id; words = words })
