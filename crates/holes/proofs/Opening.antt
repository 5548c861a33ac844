-- Opening a block: all nodes below it are right then.
use Rattle.std.proofs.Common.{◌≡◌, ◌≢◌, ℕ, ◌+◌, ◌-◌, ◌*◌, ◌/◌, ◌^◌, ◌<◌, ◌≤◌, Bool, true, List, length, ◌⊎◌, refl, sym}
use Rattle.std.proofs.Common.{◌∙◌, ap, inl, inr, arith, zero, suc}
use Rattle.std.specs.Prelude.{replicate}
use Rattle.std.proofs.lemmas.Bool.{cases_eq}
use Rattle.holes.specs.declared.summary.Summary.{Summary}
use Rattle.holes.specs.FreeWords.{is_free, widest}
use Rattle.holes.specs.Tree.{word_at, all_free, node_at, summary, leaf_count, width, first_leaf, IsPowerOfTwo, IsNode}
use Rattle.holes.specs.Tree.{node_words, IsRight, IsAlike, above, IsBlockWritten, AreOpened}
use Rattle.holes.proofs.Runs.{front_all, run_free, word_run, run-le-widest}
use Rattle.holes.proofs.Bits.{word_in}
use Rattle.holes.proofs.Bitmaps.{summary_all}
use Rattle.holes.proofs.Nodes.{above_is, span, same_height, alike_words, leaf_is, pow_le, length-node_words}
use Rattle.holes.proofs.Trees.{pow_eight, tree_opened}

-- the node of a block
pub block_node : {top leaf : ℕ} → 3 ≤ top → IsNode top 0 leaf → IsNode top 3 (leaf / 8)
unfolding above
block_node {top} {leaf} tall is = grind (arith, above_is top 3 leaf is tall)

block_first : (block : ℕ) → first_leaf 3 block ≡ 8 * block
unfolding first_leaf
block_first block = omega arith

block_width : width 3 ≡ 8
unfolding width
block_width = refl

-- words that are all free, or all not free
all_alike : (words : List Bool) (value : Bool) (word : ℕ) → word < length words → all_free words ≡ value →
    (value ≡ true) ⊎ (widest words ≡ 0) → is_free words word ≡ value
all_alike words value word lt all which =
    grind (arith, front_all words, run_free words 0 (length words), word_run words word, run-le-widest word words)

-- a block whose node says that all words are free, or none is
pub block_alike : (bits : List ℕ) (nodes : List Summary) {top block : ℕ} → IsNode top 3 block → IsRight bits nodes top
    3 block → ((node_at nodes block).whole ≡ true) ⊎ ((node_at nodes block).longest ≡ 0) → (word : ℕ) → (2 ^ top +
    word / 256) / 8 ≡ block → word_at bits word ≡ (node_at nodes block).whole
unfolding node_words
block_alike bits nodes {top} {block} is right which word at =
    let here = span top 3 block is in
    let start = 256 * (first_leaf 3 block - 2 ^ top) in
    let len = length-node_words bits top 3 block in
    let first = block_first block in
    let within : word - start < 256 * width 3 = omega (arith, block_width, here.from) in
    let word_is = word_in (word_at bits) start (256 * width 3) (word - start) within in
    let alike = all_alike (node_words bits top 3 block) (node_at nodes block).whole (word - start) in
    grind arith

-- the node of a block whose words are alike says so
pub alike_node : (bits : List ℕ) (nodes : List Summary) {top block : ℕ} → IsNode top 3 block → IsRight bits nodes top
    3 block → IsAlike bits top (8 * block) → ((node_at nodes block).whole ≡ true) ⊎ ((node_at nodes block).longest ≡
    0)
alike_node bits nodes {top} {block} is right alike =
    let same : IsAlike bits top (first_leaf 3 block) = rw (block_first block) alike in
    let words = alike_words bits same is (omega arith) in
    let node = summary_all (256 * width 3) same.0 (omega (arith, block_width)) in
    grind arith

-- the nodes below a block
abbrev IsBelow : ℕ → ℕ → ℕ → Type 0
IsBelow height index block =
    (height ≡ 0) × (index / 8 ≡ block) ⊎ (height ≡ 1) × (index / 4 ≡ block) ⊎ (height ≡ 2) × (index / 2 ≡ block)

below_block : {top block height index : ℕ} → IsNode top 3 block → IsBelow height index block →
    IsNode top height index
below_block is which =
    let one : 2 ^ suc is.depth ≡ 2 * 2 ^ is.depth = omega arith in
    let two : 2 ^ suc (suc is.depth) ≡ 2 * 2 ^ suc is.depth = omega arith in
    let three : 2 ^ suc (suc (suc is.depth)) ≡ 2 * 2 ^ suc (suc is.depth) = omega arith in
    grind arith

-- a low node of a block is among those below it
in_block : (low index block : ℕ) → low < 3 → first_leaf low index / 8 ≡ block → index / 8 ≢ block →
    index / 4 ≢ block → index / 2 ≢ block → ⊥
unfolding first_leaf
in_block zero index block lt at not_leaf not_pair not_half = not_leaf at
in_block (suc zero) index block lt at not_leaf not_pair not_half = not_pair (omega arith)
in_block (suc (suc zero)) index block lt at not_leaf not_pair not_half = not_half (omega arith)
in_block (suc (suc (suc low))) index block lt at not_leaf not_pair not_half = absurd (omega arith)

-- where the first leaf of a low node is
first_of : (height index block : ℕ) → IsBelow height index block →
    (first_leaf height index / 8 ≡ block) × (height < 3)
unfolding first_leaf
first_of height index block which = grind arith

widths : (width 0 ≡ 1) × (width 1 ≡ 2) × (width 2 ≡ 4)
unfolding width
widths = (refl, refl, refl)

-- a node below a block that was written
written_right : (bits : List ℕ) (nodes : List Summary) {top block : ℕ} (height : ℕ) {low index : ℕ} (count : ℕ)
    (value : Bool) → IsNode top 3 block →
    ((word : ℕ) → (2 ^ top + word / 256) / 8 ≡ block → word_at bits word ≡ value) → IsNode top low index →
    IsBelow height index block → count ≡ 256 * width height → node_at nodes index ≡ summary (replicate count value) →
    IsRight bits nodes top low index
written_right bits nodes {top} {block} height {low} {index} count value block_is words is which count_is node =
    let here = below_block block_is which in
    let first = first_of height index block which in
    let alike : IsAlike bits top (first_leaf height index) = (value, (λ word at. words word (at ∙ first.0))) in
    let here_words = alike_words bits alike here (omega (arith, first.1)) in
    rw (same_height is here) (node ∙ rw count_is (sym (ap summary here_words)))

-- the nodes below the block of a leaf are among those of the tree
pub block_within : (nodes : List Summary) (leaf : ℕ) → leaf < leaf_count nodes → length nodes ≡ 2 * leaf_count nodes →
    IsPowerOfTwo (leaf_count nodes) → 1 ≤ (leaf_count nodes + leaf) / 8 →
    8 * ((leaf_count nodes + leaf) / 8) + 8 ≤ length nodes
block_within nodes leaf within even power some = grind (arith, pow_eight, pow_le)

pub opened : {old new : List Summary} (leaf : ℕ) {block : ℕ} → leaf < leaf_count old → block ≡ (leaf_count old + leaf)
    / 8 → 1 ≤ block → ((node_at old block).whole ≡ true) ⊎ ((node_at old block).longest ≡ 0) → IsBlockWritten old new
    block (node_at old block).whole → AreOpened old new leaf leaf
opened {old} {new} leaf {block} within block_is some alike written bits tree low index is which =
    let top = tree.height in
    let value = (node_at old block).whole in
    let count : leaf_count old ≡ 2 ^ top = omega (arith, tree.node_count) in
    let tall : 3 ≤ top = grind (arith, pow_le top 2) in
    let node : IsNode top 3 block = grind (arith, block_node, leaf_is) in
    let right : IsRight bits old top 3 block = elim (tree.is_right 3 block node) [
      | inl r ↦ r
      | inr hide ↦ absurd (omega (arith, hide.low))
    ] in
    let words = block_alike bits old node right alike in
    elim (cases_eq (index / 8) block) [
      | inl at ↦ written_right bits new 0 256 value node words is (inl (refl, at))
          (omega (arith, widths.0)) (written.leaves index at)
      | inr not_leaf ↦ elim (cases_eq (index / 4) block) [
        | inl at ↦ written_right bits new 1 512 value node words is (inr (inl (refl, at)))
            (omega (arith, widths.1)) (written.pairs index at)
        | inr not_pair ↦ elim (cases_eq (index / 2) block) [
          | inl at ↦ written_right bits new 2 1024 value node words is (inr (inr (refl, at)))
              (omega (arith, widths.2)) (written.halves index at)
          | inr not_half ↦ written.outside index not_leaf not_pair not_half ∙ elim which [
            | inl r ↦ r
            | inr at ↦ elim (tree.is_right low index is) [
              | inl r ↦ r
              | inr h ↦ absurd (in_block low index block h.low ((elim at [ inl a ↦ a | inr a ↦ a ]) ∙ sym block_is)
                  not_leaf not_pair not_half)
            ]
          ]
        ]
      ]
    ]

-- a block that is open as it is
pub open_already : (nodes : List Summary) (leaf block : ℕ) → leaf < leaf_count nodes →
    block ≡ (leaf_count nodes + leaf) / 8 →
    (1 ≤ block → (((node_at nodes block).whole ≡ true) ⊎ ((node_at nodes block).longest ≡ 0)) → ⊥) →
    AreOpened nodes nodes leaf leaf
open_already nodes leaf block within block_is mixed bits tree low index is which = elim (tree.is_right low index is) [
  | inl r ↦ r
  | inr h ↦
      let top = tree.height in
      let count : leaf_count nodes ≡ 2 ^ top = omega (arith, tree.node_count) in
      let node : IsNode top 3 block = rw block_is (block_node h.tall
      (leaf_is top (leaf_count nodes + leaf) (omega arith) (omega arith))) in
      let right : IsRight bits nodes top 3 block = grind arith in
      let eight = pow_le 3 top h.tall in
      let alike = alike_node bits nodes node right in
      grind arith
]

-- two leaves of one block
pub opened_two : (old new : List Summary) (first last : ℕ) → first ≤ last → last < leaf_count old →
    IsPowerOfTwo (leaf_count old) → first / 8 ≡ last / 8 → AreOpened old new first first → AreOpened old new first last
opened_two old new first last order within power same opens bits tree low index is which =
    grind (arith, pow_le, pow_eight)

-- two blocks, one after the other
pub opened_both : (old middle new : List Summary) (first last : ℕ) → length middle ≡ length old →
    AreOpened old middle first first → AreOpened middle new last last → AreOpened old new first last
opened_both old middle new first last len left right bits tree low index is which =
    let between = tree_opened bits old middle tree len (λ height other node r. left bits tree height other node (inl
    r)) in
    let here = left bits tree low index is in
    let there = right bits between low index is in
    grind arith

-- a block that needs no change, and where one lies
pub ruleset opens = (block_within, open_already)
