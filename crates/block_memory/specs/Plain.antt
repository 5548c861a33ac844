-- What a plain memory contains: the blocks that have lists of their own.
use Rattle.std.specs.Prelude.{◌≡◌, ℕ, ◌≤◌, List, map, Option, Some, None}
use Rattle.block_memory.specs.Content.{Block, Content, used_words}
use Rattle.block_memory.specs.declared.plain.PlainBlock.{PlainBlock}

module _ {A : Type 0} where
  abbrev pub block_of : Option (PlainBlock A) → Option Block
  block_of None = None
  block_of (Some b) = Some (record { owner = b.owner; words = b.words.items })

  abbrev pub content_of : List (Option (PlainBlock A)) → Content
  content_of slots = map block_of slots

-- the words in use are those of the blocks, and no more than fit
pub record IsPlain (size used : ℕ) (content : Content) : Type 0 where
  pub counted : used ≡ used_words content
  pub within : used ≤ size
