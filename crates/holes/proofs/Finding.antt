-- Going down a tree to the lowest fit.
use Rattle.std.proofs.Common.{◌≡◌, ℕ, true, false, drop, sym, inl, inr, ◌+◌, ◌-◌, ◌*◌, ◌/◌, ◌^◌, ◌<◌, ◌≤◌, refl, max}
use Rattle.std.proofs.Common.{List, ◌++◌, length, ◌∙◌, arith, Bool, zero, suc}
use Rattle.std.specs.Prelude.{replicate}
use Rattle.holes.specs.declared.summary.Summary.{Summary}
use Rattle.holes.specs.FreeWords.{is_free, front_run, widest}
use Rattle.holes.specs.Tree.{words_between, words_of, node_at, back_run, lowest_fit, all_free, summary, word_at}
use Rattle.holes.specs.Tree.{leaf_count, NoneBelow, IsTree, IsNode, IsRight, width, first_leaf, node_words}
use Rattle.holes.proofs.Runs.{word_run, fit_before, front-le-length, front_all, lowest_front, widest-le-length}
use Rattle.holes.proofs.Runs.{back-le-length, widest-append, lowest-append_left, lowest-append_between}
use Rattle.holes.proofs.Runs.{lowest-append_right, lowest_within}
use Rattle.std.proofs.lemmas.Nat.{pow_pos}
use Rattle.holes.proofs.Bits.{word_in, length-words}
use Rattle.holes.proofs.Bitmaps.{summary_all}
use Rattle.holes.proofs.Nodes.{word_past, length-node_words, left_part, right_part, span, alike_words, same_block}
use Rattle.holes.proofs.Nodes.{inner, leaf_first, node_words-split, width-pos, width-pow, first_leaf-next}
use Rattle.holes.proofs.Nodes.{first_leaf-root, leaf_node, between_leaf}

-- the lowest fit is that of a node of some height, whose words begin at a place and aren't all free
pub record AtNode {bits : List ℕ} {nodes : List Summary} (tree : IsTree bits nodes) (height len index place wide : ℕ)
    : Type 0 where
  pub is_node : IsNode tree.height height index
  pub place_is : place ≡ 256 * (first_leaf height index - 2 ^ tree.height)
  pub wide_is : wide ≡ 256 * width height
  pub fits : len ≤ widest (node_words bits tree.height height index)
  pub lowest : lowest_fit len (words_of bits) ≡ place + lowest_fit len (node_words bits tree.height height index)
  pub mixed : all_free (node_words bits tree.height height index) ≡ false

-- the same at a node of any height
pub record At (bits : List ℕ) (nodes : List Summary) (len index place wide : ℕ) : Type 0 where
  pub tree : IsTree bits nodes
  pub height : ℕ
  pub node : AtNode tree height len index place wide

root_node : (top : ℕ) → IsNode top top 1
root_node top = grind arith

root_words : (bits : List ℕ) (top : ℕ) → length bits ≡ 4 * 2 ^ top → node_words bits top top 1 ≡ words_of bits
unfolding node_words
root_words bits top count = grind (arith, first_leaf-root, width-pow)

pub root_is : {bits : List ℕ} {nodes : List Summary} → IsTree bits nodes → node_at nodes 1 ≡ summary (words_of bits)
root_is {bits} tree =
    let right = tree.is_right tree.height 1 (root_node tree.height) in
    grind (arith, root_words bits tree.height)

pub root_longest : {bits : List ℕ} {nodes : List Summary} → IsTree bits nodes →
    (node_at nodes 1).longest ≡ widest (words_of bits)
root_longest tree = cc (root_is tree)

-- words that are all free have their lowest fit at their front
front_fit : (len : ℕ) (words : List Bool) → all_free words ≡ true → len ≤ widest words → lowest_fit len words ≡ 0
front_fit len words all fits = omega (arith, lowest_front, front_all, widest-le-length)

pub root_whole : {bits : List ℕ} {nodes : List Summary} (len : ℕ) → IsTree bits nodes →
    len ≤ (node_at nodes 1).longest → (node_at nodes 1).whole ≡ true → 0 ≡ lowest_fit len (words_of bits)
root_whole len tree fits whole = grind (arith, front_fit, root_is tree)

pub at_root : {bits : List ℕ} {nodes : List Summary} {len : ℕ} → IsTree bits nodes → len ≤ (node_at nodes 1).longest →
    (node_at nodes 1).whole ≡ false → At bits nodes len 1 0 (leaf_count nodes * 256)
at_root {bits} {len} tree fits mixed =
    let words = root_words bits tree.height tree.bitmaps in
    record {
      tree = tree;
      height = tree.height;
      node = grind (arith, root_node, root_is tree, first_leaf-root tree.height, width-pow tree.height);
    }

-- words that are all free, or all not free, aren't both
not_alike : (words : List Bool) (n : ℕ) (value : Bool) → 1 ≤ n → words ≡ replicate n value → all_free words ≡ false →
    1 ≤ widest words → ⊥
not_alike words n value some is mixed fits = grind (arith, summary_all n value some)

-- the parts of a node whose words aren't alike are right
part_is : {bits : List ℕ} {nodes : List Summary} (tree : IsTree bits nodes) {lower index part : ℕ} → IsNode
    tree.height (suc lower) index → IsNode tree.height lower part → first_leaf (suc lower) index ≤ first_leaf lower
    part → first_leaf lower part < first_leaf (suc lower) index + width (suc lower) → 1 ≤ widest (node_words bits
    tree.height (suc lower) index) → all_free (node_words bits tree.height (suc lower) index) ≡ false → IsRight bits
    nodes tree.height lower part
part_is {bits} tree {lower} {index} {part} is part_node from to fits mixed = elim (tree.is_right lower part part_node) [
  | inl r ↦ r
  | inr h ↦
      let low = h.low in
      let block = same_block (suc lower) index (first_leaf lower part) (omega arith) from to in
      let words = alike_words bits (h.alike.0, (λ word at. h.alike.1 word (at ∙ sym block))) is (omega arith) in
      absurd (not_alike _ _ h.alike.0 (omega (arith, width-pos (suc lower))) words mixed fits)
]

-- what is known at a node that has parts
pub record Below (bits : List ℕ) (nodes : List Summary) (len index place wide : ℕ) : Type 0 where
  pub back_within : (node_at nodes (2 * index)).back ≤ wide / 2
  pub small : (node_at nodes (2 * index)).back + (node_at nodes (2 * index + 1)).front < 2 ^ 64
  pub next_small : place + wide / 2 < 2 ^ 64
  pub whole : len ≤ (node_at nodes (2 * index)).longest → (node_at nodes (2 * index)).whole ≡ true →
      place ≡ lowest_fit len (words_of bits)
  pub left : len ≤ (node_at nodes (2 * index)).longest → (node_at nodes (2 * index)).whole ≡ false →
      At bits nodes len (2 * index) place (wide / 2)
  pub between : (node_at nodes (2 * index)).longest < len →
      len ≤ (node_at nodes (2 * index)).back + (node_at nodes (2 * index + 1)).front →
      place + (wide / 2 - (node_at nodes (2 * index)).back) ≡ lowest_fit len (words_of bits)
  pub right : (node_at nodes (2 * index)).longest < len →
      (node_at nodes (2 * index)).back + (node_at nodes (2 * index + 1)).front < len →
      At bits nodes len (2 * index + 1) (place + wide / 2) (wide / 2)

below_at : {bits : List ℕ} {nodes : List Summary} (tree : IsTree bits nodes) {len lower index place wide : ℕ} →
    1 ≤ len → AtNode tree (suc lower) len index place wide → Below bits nodes len index place wide
unfolding first_leaf width
below_at {bits} {nodes} tree {len} {lower} {index} {place} {wide} one at =
    let top = tree.height in
    let left_node = left_part at.is_node in
    let right_node = right_part at.is_node in
    let left_span = span top lower (2 * index) left_node in
    let right_span = span top lower (2 * index + 1) right_node in
    let next = first_leaf-next lower (2 * index) in
    let left_words = node_words bits top lower (2 * index) in
    let right_words = node_words bits top lower (2 * index + 1) in
    let left_len = length-node_words bits top lower (2 * index) in
    let right_len = length-node_words bits top lower (2 * index + 1) in
    let words = node_words-split bits lower at.is_node in
    let some_fit : 1 ≤ widest (node_words bits top (suc lower) index) = omega (arith, at.fits) in
    let left_is : IsRight bits nodes top lower (2 * index) = grind (arith, part_is, width-pos) in
    let right_is : IsRight bits nodes top lower (2 * index + 1) = grind (arith, part_is, width-pos) in
    let half : wide / 2 ≡ 256 * width lower = omega (arith, at.wide_is) in
    let fits : len ≤ max (max (widest left_words) (widest right_words)) (back_run left_words + front_run right_words) =
    grind (arith, widest-append) in
    let lowest : lowest_fit len (words_of bits) ≡ place + lowest_fit len (left_words ++ right_words) = grind arith in
    record {
      back_within = grind (arith, back-le-length);
      small = grind (arith, back-le-length, front-le-length);
      next_small = grind arith;
      whole = grind (arith, front_fit, lowest-append_left);
      left = λ wide_enough not_whole. record {
        tree = tree;
        height = lower;
        node = record {
          is_node = left_node;
          place_is = at.place_is;
          wide_is = half;
          fits = grind arith;
          lowest = grind (arith, lowest-append_left);
          mixed = grind arith;
        };
      };
      between = grind (arith, lowest-append_between, back-le-length);
      right = λ short apart. record {
        tree = tree;
        height = lower;
        node = record {
          is_node = right_node;
          place_is = omega (arith, at.place_is, next, left_span.from);
          wide_is = half;
          fits = grind arith;
          lowest = grind (arith, lowest-append_right);
          mixed = grind (arith, front_all, widest-le-length);
        };
      };
    }

-- what is known at a leaf, whose bitmaps begin at an index
pub record AtLeaf (bits : List ℕ) (len first : ℕ) : Type 0 where
  pub within : first + 4 ≤ length bits
  pub fits : len ≤ widest (words_between bits first (first + 4))
  pub lowest : lowest_fit len (words_of bits) ≡ 64 * first + lowest_fit len (words_between bits first (first + 4))

at_leaf : {bits : List ℕ} {nodes : List Summary} (tree : IsTree bits nodes) {len index place wide : ℕ} →
    AtNode tree 0 len index place wide → AtLeaf bits len ((index - leaf_count nodes) * 4)
unfolding first_leaf
at_leaf {bits} {nodes} tree {len} {index} at =
    let top = tree.height in
    let leaf = index - 2 ^ top in
    let count : leaf_count nodes ≡ 2 ^ top = omega (arith, tree.node_count) in
    let here = span top 0 index at.is_node in
    let same : node_words bits top 0 index ≡ words_between bits (leaf * 4) (leaf * 4 + 4) =
    leaf_node bits top index ∙ sym (between_leaf bits leaf (leaf * 4) (leaf * 4 + 4) (omega arith) refl) in
    let first : (index - leaf_count nodes) * 4 ≡ leaf * 4 = omega arith in
    rw first (grind (arith, leaf_first index, width-pow 0))

-- what is known at a node, by whether it has parts
pub record Known (bits : List ℕ) (nodes : List Summary) (len index place wide : ℕ) : Type 0 where
  pub some : 1 ≤ index
  pub below : index < leaf_count nodes → Below bits nodes len index place wide
  pub leaf : leaf_count nodes ≤ index → AtLeaf bits len ((index - leaf_count nodes) * 4)

known_node : {bits : List ℕ} {nodes : List Summary} (tree : IsTree bits nodes) (height : ℕ) {len index place wide : ℕ} →
    1 ≤ len → AtNode tree height len index place wide → Known bits nodes len index place wide
known_node tree zero one at = record {
  some = omega (arith, at.is_node.from, pow_pos at.is_node.depth);
  below = grind arith;
  leaf = λ ge. at_leaf tree at;
}
known_node tree (suc lower) one at = record {
  some = omega (arith, at.is_node.from, pow_pos at.is_node.depth);
  below = λ lt. below_at tree one at;
  leaf = λ ge. absurd (omega (arith, inner at.is_node (omega arith), tree.node_count));
}

pub known : {bits : List ℕ} {nodes : List Summary} {len index place wide : ℕ} → 1 ≤ len →
    At bits nodes len index place wide → Known bits nodes len index place wide
known one at = known_node at.tree at.height one at.node

-- The lowest free word.
word_free : (bits : List ℕ) (word : ℕ) → word < 64 * length bits → is_free (words_of bits) word ≡ word_at bits word
word_free bits word lt = grind (arith, word_in)

not_free : (bits : List ℕ) (word : ℕ) → front_run (drop word (words_of bits)) < 1 → word_at bits word ≡ false
not_free bits word none = grind (arith, word_run, word_free, word_past)

pub none_below_lowest : (bits : List ℕ) → NoneBelow bits (lowest_fit 1 (words_of bits))
none_below_lowest bits word lt = grind (arith, not_free, fit_before)

-- what is known of the lowest fit of one word
pub ruleset lowest_words = (length-words, lowest_within, none_below_lowest)
