-- Lemmas on what a memory contains: the words in use when a block comes or goes.
use Rattle.std.proofs.Common.{◌≡◌, ℕ, zero, suc, ◌+◌, ◌<◌, [], ◌∷◌, length, Option, Some, None, refl, ap, arith}
use Rattle.std.proofs.lemmas.List.{set-set}
use Rattle.std.proofs.lemmas.List.Sums.{sum_by-set}
use Rattle.block_memory.specs.Content.{Block, Content, block_at, IsLive, words_of, words_at, used_words, with_block}
use Rattle.block_memory.specs.Content.{without_block}
use Rattle.block_memory.proofs.Lists.{IsSome-in_range}

-- an empty number gets a block
pub used_words-with_block : (c : Content) (id : ℕ) (b : Block) → id < length c → block_at c id ≡ None
    → used_words (with_block c id b) ≡ used_words c + length b.words
used_words-with_block c id b h empty =
    let size : Option Block → ℕ = λ o. length (words_of o) in
    let change = sum_by-set size c id (Some b) None h in
    let was : size (block_at c id) ≡ 0 = ap size empty in
    omega (arith, change, was)

-- a block gets other words, as many
pub used_words-rewritten : (c : Content) (id : ℕ) (b : Block) → IsLive c id → length b.words ≡ length (words_at c id)
    → used_words (with_block c id b) ≡ used_words c
used_words-rewritten c id b live same =
    let size : Option Block → ℕ = λ o. length (words_of o) in
    let change = sum_by-set size c id (Some b) None (IsSome-in_range c id live) in
    omega (arith, change, same)

-- a block goes
pub used_words-without_block : (c : Content) (id : ℕ) → IsLive c id
    → used_words (without_block c id) + length (words_at c id) ≡ used_words c
used_words-without_block c id live =
    let size : Option Block → ℕ = λ o. length (words_of o) in
    let change = sum_by-set size c id None None (IsSome-in_range c id live) in
    omega (arith, change)

none_back : (c : Content) (id : ℕ) → block_at c id ≡ None → without_block c id ≡ c
none_back [] id e = refl
none_back (o ∷ c) zero e = cc
none_back (o ∷ c) (suc id) e = grind (arith, none_back c id e)

-- a block that comes and goes leaves nothing
pub comes_and_goes : (c : Content) (id : ℕ) (b : Block) → block_at c id ≡ None →
    without_block (with_block c id b) id ≡ c
comes_and_goes c id b empty = grind (arith, set-set, none_back)
