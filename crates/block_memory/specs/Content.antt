-- What a vector memory contains: at each block number a block, which is an owner and a list of words, or nothing.
use Rattle.std.specs.Prelude.{ℕ, ℤ, List, [], length, sum_by, count_by, slice_index_or, slice_set, Option, Some, None}
use Rattle.std.specs.Prelude.{is_some, IsSome, replicate}

pub record Block : Type 0 where
  pub owner : ℕ
  pub words : List ℤ

-- the blocks by their numbers: a finite map from numbers to blocks, whose length is how many numbers there are
abbrev pub Content : Type 0
Content = List (Option Block)

-- what a memory of this many numbers contains before the first block
abbrev pub no_blocks : ℕ → Content
no_blocks most = replicate most None

-- the block of a number, if it has one
abbrev pub block_at : Content → ℕ → Option Block
block_at c id = slice_index_or c id None

-- the number has a block
abbrev pub IsLive : Content → ℕ → Type 0
IsLive c id = IsSome (block_at c id)

abbrev pub owner_of : Option Block → ℕ
owner_of None = 0
owner_of (Some b) = b.owner

abbrev pub words_of : Option Block → List ℤ
words_of None = []
words_of (Some b) = b.words

-- whose the block is, and its words: 0 and no words if the number has no block
abbrev pub owner_at : Content → ℕ → ℕ
owner_at c id = owner_of (block_at c id)

abbrev pub words_at : Content → ℕ → List ℤ
words_at c id = words_of (block_at c id)

-- the words of all blocks
abbrev pub used_words : Content → ℕ
used_words c = sum_by (λ b. length (words_of b)) c

-- how many numbers have a block
abbrev pub block_count : Content → ℕ
block_count c = count_by is_some c

-- the content with this block at the number, and with none there
abbrev pub with_block : Content → ℕ → Block → Content
with_block c id b = slice_set c id (Some b)

abbrev pub without_block : Content → ℕ → Content
without_block c id = slice_set c id None

-- what contracts see of a memory: how many words fit, and what it contains
pub record Memory : Type 0 where
  pub room : ℕ
  pub content : Content
