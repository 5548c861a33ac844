-- Trees of which bitmaps, or nodes, were changed.
use Rattle.std.proofs.Common.{◌≡◌, ◌≢◌, ℕ, ◌+◌, ◌-◌, ◌*◌, ◌/◌, ◌^◌, ◌<◌, ◌≤◌, Bool, List, length, set, ◌⊎◌, sym, ◌∙◌}
use Rattle.std.proofs.Common.{ap, subst, inl, inr, arith, zero, suc}
use Rattle.std.specs.Prelude.{replicate}
use Rattle.std.proofs.lemmas.Bool.{cases_lt, cases_eq}
use Rattle.holes.specs.declared.summary.Summary.{Summary}
use Rattle.holes.specs.declared.tree.Changed.{Changed}
use Rattle.holes.specs.Tree.{word_at, node_at, summary, leaf_words, leaf_count, width, first_leaf, IsNode, node_words}
use Rattle.holes.specs.Tree.{IsRight, IsHidden, IsBeside, IsBlockBeside, IsJoined, IsTree, IsTreeBeside, above}
use Rattle.holes.specs.Tree.{IsJoining, IsFilled, AreSameBesideLeaves, AreWrittenBetween, AreOpened}
use Rattle.holes.proofs.Bits.{same_words_from, all_words}
use Rattle.holes.proofs.Nodes.{left_part, right_part, parent, span, inner, inside_parent, same_block, leaf_node}
use Rattle.holes.proofs.Nodes.{join_right, width-two, width-pos, leaf_is, first_leaf-next, first_leaf-lt, leaf_height}
use Rattle.holes.proofs.Nodes.{word_past, pow_le, read_same, read_other}
use Rattle.holes.proofs.Joining.{joined_same}

-- eight leaves are a block
pub pow_eight : (top : ℕ) → 3 ≤ top → 2 ^ top ≡ 8 * (2 ^ top / 8)
pow_eight zero tall = absurd (omega arith)
pow_eight (suc zero) tall = absurd (omega arith)
pow_eight (suc (suc zero)) tall = absurd (omega arith)
pow_eight (suc (suc (suc top))) tall = omega arith

pub tall_of : (top : ℕ) → 8 ≤ 2 ^ top → 3 ≤ top
tall_of top many = grind (arith, pow_le)

-- No leaf changed.
pub beside_none : {bits : List ℕ} {nodes : List Summary} → IsTree bits nodes →
    IsTreeBeside bits nodes (record { first = 0; end = 0 })
beside_none tree = grind (arith, pow_eight, span)

pub tree_of_beside : {bits : List ℕ} {nodes : List Summary} {changed : Changed} → IsTreeBeside bits nodes changed →
    changed.end ≡ 0 → IsTree bits nodes
tree_of_beside tree none = grind (arith, span)

-- Words of leaves that changed.
same_word : {old new : List ℕ} {place len : ℕ} (first end word : ℕ) {value : Bool} →
    IsFilled old new place len value → 256 * first ≤ place → place + len ≤ 256 * end →
    (word / 256 < first) ⊎ (end ≤ word / 256) → word_at new word ≡ word_at old word
same_word first end word filled from to out = grind (arith, word_past)

-- a node beside them has the words that it had
same_node : {old new : List ℕ} {top low index place len : ℕ} (first end : ℕ) {value : Bool} →
    IsFilled old new place len value → 256 * first ≤ place → place + len ≤ 256 * end → IsNode top low index →
    IsBeside low index (2 ^ top + first) (2 ^ top + end) → node_words new top low index ≡ node_words old top low index
unfolding node_words
same_node {old} {new} {top} {low} {index} first end filled from to is out =
    let here = span top low index is in
    let start = 256 * (first_leaf low index - 2 ^ top) in
    same_words_from (word_at new) (word_at old) start start (256 * width low)
    (λ word lt. grind (arith, same_word first end (start + word) filled from to))

pub tree_filled : {bits new_bits : List ℕ} {nodes : List Summary} {changed : Changed} {place len : ℕ} {value : Bool} →
    IsTreeBeside bits nodes changed → IsFilled bits new_bits place len value → 256 * changed.first ≤ place → place +
    len ≤ 256 * changed.end → IsTreeBeside new_bits nodes changed
tree_filled {bits} {new_bits} {changed} {place} {len} {value} tree filled from to = record {
  height = tree.height;
  bitmaps = filled.same_length ∙ tree.bitmaps;
  small = omega (arith, filled.same_length, tree.small);
  node_count = tree.node_count;
  order = tree.order;
  within = tree.within;
  is_right = λ low index is out.
      let words = same_node changed.first changed.end filled from to is out in
      let word_is = λ (word : ℕ). same_word changed.first changed.end word filled from to in
      elim (tree.is_right low index is out) [ inl r ↦ grind arith | inr h ↦ grind arith ];
  joined = tree.joined;
}

-- More leaves of one block may have changed.
pub tree_wider : {bits : List ℕ} {nodes : List Summary} {changed : Changed} {first end : ℕ} →
    IsTreeBeside bits nodes changed → changed.first < changed.end → first ≤ changed.first → changed.end ≤ end →
    end ≤ leaf_count nodes → (end - 1) / 8 ≡ first / 8 → IsTreeBeside bits nodes (record { first = first; end = end })
tree_wider tree some low high within block = grind (arith, pow_eight)

-- Blocks are opened.
abbrev pub tree_opened : (bits : List ℕ) (nodes new : List Summary) (tree : IsTree bits nodes) →
    length new ≡ length nodes →
    ((low index : ℕ) → IsNode tree.height low index → IsRight bits nodes tree.height low index →
    IsRight bits new tree.height low index) → IsTree bits new
tree_opened bits nodes new tree len keeps = record {
  height = tree.height;
  bitmaps = tree.bitmaps;
  small = tree.small;
  node_count = len ∙ tree.node_count;
  is_right = grind arith;
}

-- all nodes of the blocks of two leaves are right
pub record AreOpen (bits : List ℕ) (nodes : List Summary) (top first last : ℕ) : Type 0 where
  pub is_right : (low index : ℕ) → IsNode top low index →
      IsRight bits nodes top low index ⊎ IsHidden bits top low index
  pub first_right : (low index : ℕ) → IsNode top low index → first_leaf low index / 8 ≡ first / 8 →
      IsRight bits nodes top low index
  pub last_right : (low index : ℕ) → IsNode top low index → first_leaf low index / 8 ≡ last / 8 →
      IsRight bits nodes top low index

-- a node above a leaf of such a block is that of its parts
joined_open : {bits : List ℕ} {nodes : List Summary} {top first last : ℕ} (low : ℕ) {index : ℕ} →
    256 * 2 ^ top < 2 ^ 32 → AreOpen bits nodes top first last → IsNode top (suc low) index →
    first_leaf (suc low) index ≤ first → first < first_leaf (suc low) index + width (suc low) → IsJoined nodes index
unfolding first_leaf width
joined_open {bits} {nodes} {top} low {index} small blocks is from to =
    let next = first_leaf-next low (2 * index) in
    let pos = width-pos low in
    let block = same_block (suc low) index in
    let left_is = left_part is in
    let right_is = right_part is in
    let here : IsRight bits nodes top (suc low) index = grind (arith, blocks.is_right (suc low) index is) in
    let left : IsRight bits nodes top low (2 * index) = grind (arith, blocks.is_right low (2 * index) left_is) in
    let right : IsRight bits nodes top low (2 * index + 1) =
    grind (arith, blocks.is_right low (2 * index + 1) right_is) in
    here ∙ sym (join_right bits nodes low small is left right)

pub opened_beside : {bits : List ℕ} {nodes : List Summary} {top first end : ℕ} → length bits ≡ 4 * 2 ^ top →
    64 * length bits < 2 ^ 32 → length nodes ≡ 2 * 2 ^ top → first < end → end ≤ 2 ^ top →
    AreOpen bits nodes top (2 ^ top + first) (2 ^ top + (end - 1)) →
    IsTreeBeside bits nodes (record { first = first; end = end })
opened_beside {top} {first} {end} bitmaps small node_count some within blocks = record {
  height = top;
  bitmaps = bitmaps;
  small = small;
  node_count = node_count;
  order = inr (omega arith);
  within = within;
  is_right = grind arith;
  joined = λ more low index is other from to.
      let up = inside_parent low index in
      joined_open low (omega arith) blocks
      (parent is other) (omega (arith, up.from)) (omega (arith, up.to));
}

-- The nodes of leaves that changed are right.

-- one leaf more
pub leaf_more : (bits : List ℕ) (old nodes : List Summary) (first leaf : ℕ) (node : Summary) →
    length nodes ≡ length old → node ≡ summary (leaf_words bits leaf) → leaf < leaf_count old →
    ((other : ℕ) → first ≤ other → other < leaf →
    node_at nodes (leaf_count old + other) ≡ summary (leaf_words bits other)) → (other : ℕ) → first ≤ other →
    other < leaf + 1 →
    node_at (set nodes (leaf_count old + leaf) node) (leaf_count old + other) ≡ summary (leaf_words bits other)
leaf_more bits old nodes first leaf node len is within leaves other from to = elim (cases_eq other leaf) [
  | inl same ↦ rw same (read_same nodes (leaf_count old + leaf) node (omega arith) ∙ is)
  | inr ne ↦ read_other nodes (leaf_count old + leaf) (leaf_count old + other) node (λ e. ne (omega arith))
      ∙ leaves other from (omega arith)
]

pub leaf_beside : (old nodes : List Summary) (first end leaf : ℕ) (node : Summary) → first ≤ leaf → leaf < end →
    AreSameBesideLeaves old nodes first end →
    AreSameBesideLeaves old (set nodes (leaf_count old + leaf) node) first end
leaf_beside old nodes first end leaf node from to same index out = grind (arith, read_other)

-- the node of a leaf
leaf_right : (bits : List ℕ) (nodes : List Summary) (top low index leaf : ℕ) → low ≤ 0 → index ≡ 2 ^ top + leaf →
    node_at nodes (2 ^ top + leaf) ≡ summary (leaf_words bits leaf) → IsRight bits nodes top low index
leaf_right bits nodes top zero index leaf le at is =
    rw at (is ∙ sym (ap summary (leaf_node bits top (2 ^ top + leaf) ∙ ap (leaf_words bits)
    (let e : 2 ^ top + leaf - 2 ^ top ≡ leaf = omega arith in e))))
leaf_right bits nodes top (suc low) index leaf le at is = absurd (omega arith)

-- the nodes of the leaves that changed were joined
pub record AreLeavesJoined (bits : List ℕ) (old new : List Summary) (first end : ℕ) : Type 0 where
  pub same_length : length new ≡ length old
  pub leaves : (leaf : ℕ) → first ≤ leaf → leaf < end →
      node_at new (leaf_count old + leaf) ≡ summary (leaf_words bits leaf)
  pub beside : AreSameBesideLeaves old new first end

-- the nodes after those of the leaves from one up to another, and between these, were written
pub record IsWrittenAt (bits : List ℕ) (old new : List Summary) (top left right : ℕ) : Type 0 where
  pub same_length : length new ≡ length old
  pub outside : (low index : ℕ) → IsNode top low index → IsBeside low index left (right + 1) →
      node_at new index ≡ node_at old index
  pub above : (low index : ℕ) → IsNode top low index → 0 < low → first_leaf low index ≤ left →
      right < first_leaf low index + width low → node_at new index ≡ node_at old index
  pub inside : (low index : ℕ) → IsNode top low index → left ≤ first_leaf low index →
      first_leaf low index + width low ≤ right + 1 →
      (low ≡ 0) ⊎ (IsBeside low index left (left + 1) × IsBeside low index right (right + 1)) →
      IsRight bits new top low index ⊎ (IsHidden bits top low index
      × IsBlockBeside (first_leaf low index) left (left + 1) × IsBlockBeside (first_leaf low index) right (right + 1))

leaf_width : (low index : ℕ) → low ≤ 0 → (width low ≡ 1) × (first_leaf low index ≡ index)
unfolding width first_leaf
leaf_width zero index le = (omega arith, omega arith)
leaf_width (suc low) index le = absurd (omega arith)

pub joining_of : {bits : List ℕ} {old new : List Summary} {changed : Changed} (tree : IsTreeBeside bits old changed)
    (last : ℕ) → changed.end ≡ last + 1 → changed.first ≤ last →
    IsWrittenAt bits old new tree.height (2 ^ tree.height + changed.first) (2 ^ tree.height + last) →
    IsJoining bits new ((leaf_count old + changed.first) / 2) ((leaf_count old + last) / 2)
unfolding above
joining_of {bits} {old} {new} {changed} tree last end_is order written =
    let top = tree.height in
    let left = 2 ^ top + changed.first in
    let right = 2 ^ top + last in
    let count : leaf_count old ≡ 2 ^ top = omega (arith, tree.node_count) in
    let within = tree.within in
    record {
      height = top;
      lower = 0;
      left = left;
      right = right;
      first_is = grind arith;
      last_is = grind arith;
      at = record {
        bitmaps = tree.bitmaps;
        small = tree.small;
        node_count = written.same_length ∙ tree.node_count;
        left_is = leaf_is top left (omega arith) (omega arith);
        right_is = leaf_is top right (omega arith) (omega arith);
        is_right = λ low index is which. grind (arith, leaf_width low index);
        joined = λ low index is other high a b c d.
            let up = parent is other in
            let inside = inside_parent low index in
            let part : (child : ℕ) → IsNode top low child → node_at new child ≡ node_at old child = λ child node.
            elim (cases_lt child index) [
              | inl lt ↦ written.outside low child node (inl (omega (arith, first_leaf-lt low child index lt)))
              | inr ge ↦ elim (cases_lt index child) [
                | inl gt ↦ written.outside low child node (inr (omega (arith, first_leaf-lt low index child gt)))
                | inr le ↦ grind arith
              ]
            ] in
            joined_same old new (index / 2)
            (written.above (suc low) (index / 2) up (omega arith) (omega (arith, inside.from))
            (omega (arith, inside.to)))
            (part (2 * (index / 2)) (left_part up)) (part (2 * (index / 2) + 1) (right_part up))
            (tree.joined (omega arith) low index is other a (omega arith));
      };
    }

-- Some leaves that follow one another.
changed_written : {bits : List ℕ} {old new : List Summary} (top first last : ℕ) → leaf_count old ≡ 2 ^ top →
    last ≤ first + 2 → AreLeavesJoined bits old new first (last + 1) →
    IsWrittenAt bits old new top (2 ^ top + first) (2 ^ top + last)
changed_written {bits} {old} {new} top first last count few joined = record {
  same_length = joined.same_length;
  outside = λ low index is out. grind (arith, inner is, leaf_width low index);
  above = λ low index is high from to. grind (arith, inner is);
  inside = λ low index is from to which. elim (cases_lt 0 low) [
    | inl high ↦ absurd (omega (arith, width-two low high))
    | inr leaf ↦
        let here = leaf_width low index leaf in
        let node = joined.leaves (index - 2 ^ top) (omega arith) (omega arith) in
        inl (leaf_right bits new top low index (index - 2 ^ top) leaf (omega arith) (rw count at node))
  ];
}

pub changed_joining : {bits : List ℕ} {old new : List Summary} {changed : Changed} → IsTreeBeside bits old changed →
    changed.end ≢ 0 → changed.end ≤ changed.first + 3 → AreLeavesJoined bits old new changed.first changed.end →
    IsJoining bits new ((leaf_count old + changed.first) / 2) ((leaf_count old + changed.end - 1) / 2)
changed_joining {bits} {old} {new} {changed} tree some few joined =
    let order : changed.first < changed.end = grind arith in
    let end : changed.end ≡ changed.end - 1 + 1 = omega arith in
    let last : leaf_count old + changed.end - 1 ≡ leaf_count old + (changed.end - 1) = omega arith in
    rw last (joining_of tree (changed.end - 1) end (omega arith)
    (changed_written tree.height changed.first (changed.end - 1) (omega (arith, tree.node_count)) (omega arith)
    (subst (AreLeavesJoined bits old new changed.first) end joined)))

-- A long range.
pub between_filled : (bits new_bits : List ℕ) (place len : ℕ) (value : Bool) → 1 ≤ len →
    IsFilled bits new_bits place len value → (word : ℕ) → place / 256 < word / 256 →
    word / 256 < (place + len - 1) / 256 → word_at new_bits word ≡ value
between_filled bits new_bits place len value some filled word from to = grind arith

between_words : (bits : List ℕ) {top low index : ℕ} (first last : ℕ) (value : Bool) →
    ((word : ℕ) → first < word / 256 → word / 256 < last → word_at bits word ≡ value) → IsNode top low index →
    2 ^ top + first < first_leaf low index → first_leaf low index + width low ≤ 2 ^ top + last →
    node_words bits top low index ≡ replicate (256 * width low) value
unfolding node_words
between_words bits first last value words is from to = grind (arith, all_words)

between_hidden : {bits : List ℕ} {top low index : ℕ} (first last : ℕ) (value : Bool) →
    ((word : ℕ) → first < word / 256 → word / 256 < last → word_at bits word ≡ value) → low < 3 →
    2 ^ top + first < first_leaf low index → first_leaf low index + width low ≤ 2 ^ top + last → last < 2 ^ top →
    IsBlockBeside (first_leaf low index) (2 ^ top + first) (2 ^ top + first + 1) →
    IsBlockBeside (first_leaf low index) (2 ^ top + last) (2 ^ top + last + 1) → IsHidden bits top low index
between_hidden {top} {low} {index} first last value words lower from to within apart_first apart_last =
    record {
      low = lower;
      tall = tall_of top (omega arith);
      alike = (value, (λ word at. words word (omega arith) (omega arith)));
    }

-- what the functions that write and join the nodes of a long range promise
pub long_written : {bits : List ℕ} {old one two new : List Summary} {top first last : ℕ} {value : Bool} → first < last →
    last < 2 ^ top → leaf_count old ≡ 2 ^ top →
    ((word : ℕ) → first < word / 256 → word / 256 < last → word_at bits word ≡ value) → length one ≡ length old →
    AreWrittenBetween old one top (2 ^ top + first) (2 ^ top + last) value →
    AreLeavesJoined bits one two first (first + 1) → AreLeavesJoined bits two new last (last + 1) →
    IsWrittenAt bits old new top (2 ^ top + first) (2 ^ top + last)
long_written {bits} {old} {one} {two} {new} {top} {first} {last} {value} order within count words len written left
    right =
    let count_one : leaf_count one ≡ 2 ^ top = omega arith in
    let count_two : leaf_count two ≡ 2 ^ top = omega (arith, left.same_length) in
    let after : (index : ℕ) → index ≢ 2 ^ top + first → index ≢ 2 ^ top + last →
    node_at new index ≡ node_at one index = λ index not_left not_right. grind arith in
    let leaf : (low index : ℕ) → IsNode top low index → 2 ^ top ≤ index →
    (width low ≡ 1) × (first_leaf low index ≡ index) = λ low index is ge.
    leaf_width low index (omega (arith, leaf_height is ge)) in
    record {
      same_length = right.same_length ∙ (left.same_length ∙ len);
      outside = λ low index is out.
          let here = leaf low index is in
          let pos = width-pos low in
          grind arith;
      above = λ low index is high from to. let below = inner is high in grind arith;
      inside = λ low index is from to which. elim (cases_eq index (2 ^ top + first)) [
        | inl here ↦
            let node = left.leaves first (omega arith) (omega arith) in
            let same = right.beside (2 ^ top + first) (inl (omega arith)) in
            inl (leaf_right bits new top low index first (omega (arith, leaf_height is (omega arith))) here
            (same ∙ (rw count_one at node)))
        | inr not_left ↦ elim (cases_eq index (2 ^ top + last)) [
          | inl here ↦
              let node = right.leaves last (omega arith) (omega arith) in
              inl (leaf_right bits new top low index last (omega (arith, leaf_height is (omega arith))) here
              (rw count_two at node))
          | inr not_right ↦
              let here = leaf_width low index in
              let pos = width-pos low in
              let apart : (2 ^ top + first < first_leaf low index)
              × (first_leaf low index + width low ≤ 2 ^ top + last) = grind arith in
              let same = after index not_left not_right in
              let inner_words = between_words bits first last value words is apart.0 apart.1 in
              let hidden = between_hidden {bits = bits} {top = top} {low = low} {index = index} first last value words
              in
              grind arith
        ]
      ];
    }

-- the blocks of the first and of the last leaf are opened
pub open_blocks : {bits : List ℕ} {old new : List Summary} {first end : ℕ} → IsTree bits old →
    length new ≡ length old → first < end → end ≤ leaf_count old → AreOpened old new first (end - 1) →
    IsTreeBeside bits new (record { first = first; end = end })
open_blocks {bits} {old} {new} {first} {end} tree len some within opens =
    let count : leaf_count old ≡ 2 ^ tree.height = omega (arith, tree.node_count) in
    opened_beside tree.bitmaps tree.small (len ∙ tree.node_count) some (omega arith) (grind arith)
