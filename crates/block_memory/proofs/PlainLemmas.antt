-- Lemmas on what a plain memory contains.
use Rattle.std.proofs.Common.{◌≡◌, ℕ, zero, suc, ◌+◌, ◌-◌, ◌<◌, ◌≤◌, List, length, replicate, slice_set, Option}
use Rattle.std.proofs.Common.{Some, None, is_some, refl, arith}
use Rattle.std.proofs.lemmas.List.{map-set, length-map}
use Rattle.std.proofs.lemmas.List.Folds.{sum_by-replicate}
use Rattle.std.proofs.Math.ListN.{get_or-map}
use Rattle.block_memory.specs.Content.{no_blocks, block_at, words_at, block_count, with_block, without_block}
use Rattle.block_memory.specs.Table.{value_at, value_count}
use Rattle.block_memory.specs.Plain.{block_of, content_of, IsPlain}
use Rattle.block_memory.specs.declared.plain.PlainBlock.{PlainBlock}
use Rattle.block_memory.proofs.Lists.{value_count-map}
use Rattle.block_memory.proofs.ContentLemmas.{used_words-with_block, used_words-without_block}

-- no number has a block at first
pub content_of-empty : (A : Type 0) (n : ℕ) → content_of {A = A} (replicate n None) ≡ no_blocks n
content_of-empty A zero = refl
content_of-empty A (suc n) = grind (arith, content_of-empty A n)

pub IsPlain-empty : (A : Type 0) (size n : ℕ) → IsPlain size 0 (content_of {A = A} (replicate n None))
IsPlain-empty A size n = grind (arith, sum_by-replicate, content_of-empty)

module _ {A : Type 0} where
  -- the block of a number is the one in its slot
  block_at-plain : (slots : List (Option (PlainBlock A))) (n : ℕ)
      → block_at (content_of slots) n ≡ block_of (value_at slots n)
  block_at-plain slots n = get_or-map block_of slots n None

  is_some-block_of : (o : Option (PlainBlock A)) → is_some (block_of o) ≡ is_some o
  is_some-block_of None = refl
  is_some-block_of (Some b) = refl

  -- there are as many blocks as values
  pub block_count-plain : (slots : List (Option (PlainBlock A))) → block_count (content_of slots) ≡ value_count slots
  block_count-plain slots = value_count-map block_of is_some-block_of slots

  -- the words of a number's block
  pub words_at-plain : (slots : List (Option (PlainBlock A))) (n : ℕ) (b : PlainBlock A) → value_at slots n ≡ Some b
      → words_at (content_of slots) n ≡ b.words.items
  words_at-plain slots n b there = grind (arith, block_at-plain)

  -- an empty number gets a block
  pub content_of-insert : (slots : List (Option (PlainBlock A))) (n : ℕ) (b : PlainBlock A)
      → content_of (slice_set slots n (Some b)) ≡ with_block (content_of slots) n
      (record { owner = b.owner; words = b.words.items })
  content_of-insert slots n b = map-set block_of slots n (Some b)

  pub IsPlain-insert : (size used : ℕ) (slots : List (Option (PlainBlock A))) (n : ℕ) (b : PlainBlock A)
      → IsPlain size used (content_of slots) → n < length slots → value_at slots n ≡ None
      → used + length b.words.items ≤ size → IsPlain size (used + length b.words.items)
      (content_of (slice_set slots n (Some b)))
  IsPlain-insert size used slots n b plain within empty fits =
      grind (arith, length-map, used_words-with_block, block_at-plain, content_of-insert)

  -- the block of a number goes
  pub content_of-remove : (slots : List (Option (PlainBlock A))) (n : ℕ)
      → content_of (slice_set slots n None) ≡ without_block (content_of slots) n
  content_of-remove slots n = map-set block_of slots n None

  pub IsPlain-remove : (size used : ℕ) (slots : List (Option (PlainBlock A))) (n len : ℕ) (b : PlainBlock A)
      → IsPlain size used (content_of slots) → value_at slots n ≡ Some b → len ≡ length b.words.items
      → IsPlain size (used - len) (content_of (slice_set slots n None))
  IsPlain-remove size used slots n len b plain there long =
      grind (arith, block_at-plain, used_words-without_block, is_some, words_at-plain, content_of-remove)

-- ---- what proofs of functions use

pub ruleset for_new = (IsPlain-empty, content_of-empty)

pub ruleset for_free = (IsPlain-remove, content_of-remove)

pub ruleset for_place = (IsPlain-insert, content_of-insert)
