-- The nodes of a tree and the leaves below them.
use Rattle.std.proofs.Common.{◌≡◌, ◌≢◌, ℕ, ◌+◌, ◌-◌, ◌*◌, ◌/◌, ◌^◌, ◌<◌, ◌≤◌, false, List, ◌++◌, length, get_or, set}
use Rattle.std.proofs.Common.{◌⊎◌, refl, arith, zero, suc, rules}
use Rattle.std.specs.Prelude.{replicate}
use Rattle.std.proofs.lemmas.List.{get_or_past, get_or-set_same, get_or-set_other}
use Rattle.std.proofs.lemmas.Nat.Bits.{bit_at-zero}
use Rattle.holes.specs.declared.summary.Summary.{Summary}
use Rattle.holes.specs.Tree.{is_set, words_from, words_of_bits, word_at, node_at, summary, join, leaf_words}
use Rattle.holes.specs.Tree.{words_between, width, first_leaf, IsNode, node_words, IsRight, IsAlike, above}
use Rattle.holes.proofs.Runs.{summary-append}
use Rattle.holes.proofs.Bits.{same_words_from, words_from-add, length-words, all_words}

pub width-pos : (height : ℕ) → 1 ≤ width height
unfolding width
width-pos zero = omega arith
width-pos (suc height) = omega (arith, width-pos height)

pub width-pow : (height : ℕ) → width height ≡ 2 ^ height
unfolding width
width-pow zero = refl
width-pow (suc height) = omega (arith, width-pow height)

pub first_leaf-next : (height index : ℕ) → first_leaf height (index + 1) ≡ first_leaf height index + width height
unfolding first_leaf width
first_leaf-next zero index = refl
first_leaf-next (suc height) index =
    grind (arith, first_leaf-next height (2 * index + 1), first_leaf-next height (2 * index))

pub first_leaf-zero : (height : ℕ) → first_leaf height 0 ≡ 0
unfolding first_leaf
first_leaf-zero zero = refl
first_leaf-zero (suc height) = first_leaf-zero height

pub first_leaf-root : (height : ℕ) → first_leaf height 1 ≡ width height
first_leaf-root height = omega (arith, first_leaf-next height 0, first_leaf-zero height)

pub width-two : (height : ℕ) → 1 ≤ height → 2 ≤ width height
unfolding width
width-two zero some = absurd (omega arith)
width-two (suc height) some = omega (arith, width-pos height)

pub pow_le : (i j : ℕ) → i ≤ j → 2 ^ i ≤ 2 ^ j
pow_le zero j le = search (rules, arith)
pow_le (suc i) zero le = absurd (omega arith)
pow_le (suc i) (suc j) le = omega (arith, pow_le i j (omega arith))

-- the parts of a node, and the node of which it is a part
pub left_part : {top height index : ℕ} → IsNode top (suc height) index → IsNode top height (2 * index)
left_part is =
    let double : 2 ^ suc is.depth ≡ 2 * 2 ^ is.depth = omega arith in
    grind arith

pub right_part : {top height index : ℕ} → IsNode top (suc height) index → IsNode top height (2 * index + 1)
right_part is =
    let double : 2 ^ suc is.depth ≡ 2 * 2 ^ is.depth = omega arith in
    grind arith

parent_at : (depth top height index : ℕ) → height + depth ≡ top → 2 ^ depth ≤ index → index < 2 * 2 ^ depth →
    1 < index → IsNode top (suc height) (index / 2)
parent_at zero top height index at from to some = absurd (omega arith)
parent_at (suc depth) top height index at from to some = grind arith

pub parent : {top height index : ℕ} → IsNode top height index → 1 < index → IsNode top (suc height) (index / 2)
parent is some = grind (arith, parent_at)

-- a node has one height
same_depth : (d e index : ℕ) → 2 ^ d ≤ index → index < 2 * 2 ^ d → 2 ^ e ≤ index → index < 2 * 2 ^ e → d ≡ e
same_depth d e index from to other_from other_to = grind (arith, pow_le (suc d) e, pow_le (suc e) d)

pub same_height : {top height other index : ℕ} → IsNode top height index → IsNode top other index → height ≡ other
same_height is also = grind (arith, same_depth)

-- the leaves of the tree are at the indices from 2 ^ top on
pub record Span (top height index : ℕ) : Type 0 where
  pub from : 2 ^ top ≤ first_leaf height index
  pub to : first_leaf height index + width height ≤ 2 * 2 ^ top

pub span : (top height index : ℕ) → IsNode top height index → Span top height index
unfolding first_leaf width
span top zero index is = grind arith
span top (suc height) index is =
    omega (
      arith,
      first_leaf-next,
      span top height (2 * index) (left_part is),
      span top height (2 * index + 1) (right_part is),
    )

pub leaf_first : (leaf : ℕ) → first_leaf 0 leaf ≡ leaf
unfolding first_leaf
leaf_first leaf = refl

pub leaf_is : (top leaf : ℕ) → 2 ^ top ≤ leaf → leaf < 2 * 2 ^ top → IsNode top 0 leaf
leaf_is top leaf from to = grind arith

-- a node that has parts has an index below those of the leaves
pub inner : {top height index : ℕ} → IsNode top height index → 1 ≤ height → (1 ≤ index) × (index < 2 ^ top)
inner {top} is some =
    omega (arith, pow_le 0 is.depth (omega arith), pow_le (suc is.depth) top (omega (arith, is.at)))

pub leaf_height : {top height index : ℕ} → IsNode top height index → 2 ^ top ≤ index → height ≡ 0
leaf_height is ge = grind (arith, inner is)

-- the leaves of a node are among those of the node above it
pub record Inside (height index : ℕ) : Type 0 where
  pub from : first_leaf (suc height) (index / 2) ≤ first_leaf height index
  pub to : first_leaf height index + width height ≤ first_leaf (suc height) (index / 2) + width (suc height)

pub inside_parent : (height index : ℕ) → Inside height index
unfolding first_leaf width
inside_parent height index = grind (arith, first_leaf-next height (2 * (index / 2)))

-- nodes of one height have their leaves one after another
pub first_leaf-lt : (height i j : ℕ) → i < j → first_leaf height i + width height ≤ first_leaf height j
unfolding first_leaf width
first_leaf-lt zero i j lt = omega arith
first_leaf-lt (suc height) i j lt =
    omega (arith, first_leaf-next, first_leaf-lt height (2 * i + 1) (2 * j) (omega arith))

-- the nodes above a leaf
pub above_is : (top height leaf : ℕ) → IsNode top 0 leaf → height ≤ top → IsNode top height (above height leaf)
unfolding above
above_is top zero leaf is le = is
above_is top (suc height) leaf is le =
    let here = above_is top height leaf is (omega arith) in
    parent here
    (grind (arith, pow_le 1 here.depth (omega (arith, here.at))))

pub record Covers (height index leaf : ℕ) : Type 0 where
  pub from : first_leaf height index ≤ leaf
  pub to : leaf < first_leaf height index + width height

pub above_covers : (height leaf : ℕ) → Covers height (above height leaf) leaf
unfolding above first_leaf width
above_covers zero leaf = omega arith
above_covers (suc height) leaf = grind (arith, inside_parent, above_covers height leaf)

pub above_past : (top height leaf : ℕ) → IsNode top 0 leaf → top < height → above height leaf ≡ 0
unfolding above
above_past top zero leaf is lt = absurd (omega arith)
above_past top (suc height) leaf is lt = grind (arith, above_past top height leaf is, above_is top height leaf is)

pub above_within : {top : ℕ} (height : ℕ) {leaf : ℕ} → IsNode top 0 leaf → 0 < above height leaf → height ≤ top
above_within {top} height {leaf} is some = grind (arith, above_past top height leaf is)

-- a node of one height that isn't above a leaf
pub apart_above : (height index leaf : ℕ) → index ≢ above height leaf →
    (first_leaf height index + width height ≤ leaf) ⊎ (leaf + 1 ≤ first_leaf height index)
apart_above height index leaf ne =
    grind (
      arith,
      above_covers height leaf,
      first_leaf-lt height index (above height leaf),
      first_leaf-lt height (above height leaf) index,
    )

-- the leaves of a low node are of one block
pub same_block : (height index leaf : ℕ) → height ≤ 3 → first_leaf height index ≤ leaf →
    leaf < first_leaf height index + width height → leaf / 8 ≡ first_leaf height index / 8
unfolding first_leaf width
same_block zero index leaf low from to = omega arith
same_block (suc zero) index leaf low from to = omega arith
same_block (suc (suc zero)) index leaf low from to = omega arith
same_block (suc (suc (suc zero))) index leaf low from to = omega arith
same_block (suc (suc (suc (suc height)))) index leaf low from to = absurd (omega arith)

-- the words of a bitmap are those of its place in the list
pub bitmap_words : (bits : List ℕ) (index : ℕ) →
    words_of_bits (get_or bits index 0) ≡ words_from (word_at bits) (64 * index) 64
unfolding words_of_bits
bitmap_words bits index = same_words_from (is_set (get_or bits index 0)) (word_at bits) 0 (64 * index) 64 (grind arith)

-- the words of the bitmaps of a leaf
pub between_leaf : (bits : List ℕ) (leaf first end : ℕ) → first ≡ 4 * leaf → end ≡ first + 4 →
    words_between bits first end ≡ leaf_words bits leaf
between_leaf bits leaf first end from to =
    let place : 64 * first ≡ 256 * leaf = omega arith in
    let len : 64 * (end - first) ≡ 256 = omega arith in
    rw (place, len) refl

-- The words of nodes.
pub length-node_words : (bits : List ℕ) (top height index : ℕ) →
    length (node_words bits top height index) ≡ 256 * width height
unfolding node_words
length-node_words bits top height index = omega (arith, length-words)

pub leaf_node : (bits : List ℕ) (top leaf : ℕ) → node_words bits top 0 leaf ≡ leaf_words bits (leaf - 2 ^ top)
unfolding node_words first_leaf width
leaf_node bits top leaf = refl

pub node_words-split : (bits : List ℕ) {top : ℕ} (height : ℕ) {index : ℕ} → IsNode top (suc height) index → node_words
    bits top (suc height) index ≡ node_words bits top height (2 * index) ++ node_words bits top height (2 * index + 1)
unfolding node_words first_leaf width
node_words-split bits {top} height {index} is =
    let wide = 256 * width height in
    let split = words_from-add (word_at bits) (256 * (first_leaf height (2 * index) - 2 ^ top)) wide wide in
    let left = span top height (2 * index) (left_part is) in
    grind (arith, first_leaf-next height (2 * index))

-- a node whose parts are right is right once they are joined
pub join_right : (bits : List ℕ) (nodes : List Summary) {top : ℕ} (height : ℕ) {index : ℕ} → 256 * 2 ^ top < 2 ^ 32 →
    IsNode top (suc height) index → IsRight bits nodes top height (2 * index) → IsRight bits nodes top height (2 *
    index + 1) → join (node_at nodes (2 * index)) (node_at nodes (2 * index + 1)) ≡ summary (node_words bits top (suc
    height) index)
join_right bits nodes {top} height {index} small is left_right right_right =
    let left = span top height (2 * index) (left_part is) in
    let right = span top height (2 * index + 1) (right_part is) in
    let next = first_leaf-next height (2 * index) in
    grind (arith, summary-append, length-node_words, node_words-split bits height is)

-- the words of a low node in a block that is all free, or has no free word
pub alike_words : (bits : List ℕ) {top height index : ℕ} (alike : IsAlike bits top (first_leaf height index)) → IsNode
    top height index → height ≤ 3 → node_words bits top height index ≡ replicate (256 * width height) alike.0
unfolding node_words
alike_words bits {top} {height} {index} alike is low =
    let here = span top height index is in
    grind (arith, all_words, same_block)

-- a node that is changed
pub read_same : (nodes : List Summary) (index : ℕ) (node : Summary) → index < length nodes →
    node_at (set nodes index node) index ≡ node
read_same nodes index node lt = grind (arith, get_or-set_same)

pub read_other : (nodes : List Summary) (index other : ℕ) (node : Summary) → other ≢ index →
    node_at (set nodes index node) other ≡ node_at nodes other
read_other nodes index other node ne = grind (arith, get_or-set_other)

-- after the bitmaps no word is free
pub word_past : (bits : List ℕ) (word : ℕ) → 64 * length bits ≤ word → word_at bits word ≡ false
word_past bits word past = grind (arith, get_or_past, bit_at-zero)
