-- Joining the nodes above leaves that changed.
use Rattle.std.proofs.Common.{◌≡◌, ◌≢◌, ℕ, ◌+◌, ◌-◌, ◌*◌, ◌/◌, ◌<◌, ◌≤◌, List, length, set, ◌⊎◌, refl, sym, ◌∙◌, ap}
use Rattle.std.proofs.Common.{subst, inl, inr, arith, zero, suc}
use Rattle.std.proofs.lemmas.Bool.{cases_lt, cases_eq}
use Rattle.std.proofs.lemmas.List.{length-set}
use Rattle.holes.specs.declared.summary.Summary.{Summary}
use Rattle.holes.specs.Tree.{node_at, join, width, first_leaf, IsNode, node_words, IsRight, IsJoined, IsTree, above}
use Rattle.holes.specs.Tree.{IsJoiningAt, IsJoining, summary}
use Rattle.holes.proofs.Nodes.{left_part, right_part, parent, same_height, inner, above_is, above_covers, above_within}
use Rattle.holes.proofs.Nodes.{apart_above, same_block, join_right, read_same, read_other, width-pos, first_leaf-next}

-- the nodes at two indices are joined, and the others are as they were
pub record IsStep (old new : List Summary) (first last : ℕ) : Type 0 where
  pub same_length : length new ≡ length old
  pub first_is : node_at new first ≡ join (node_at old (2 * first)) (node_at old (2 * first + 1))
  pub last_is : node_at new last ≡ join (node_at old (2 * last)) (node_at old (2 * last + 1))
  pub beside : (index : ℕ) → index ≢ first → index ≢ last → node_at new index ≡ node_at old index

pub step_one : (nodes : List Summary) (index : ℕ) (node : Summary) → index < length nodes →
    node ≡ join (node_at nodes (2 * index)) (node_at nodes (2 * index + 1)) →
    IsStep nodes (set nodes index node) index index
step_one nodes index node within is = grind (arith, length-set, read_same, read_other)

pub step_two : (nodes : List Summary) (first last : ℕ) (left right : Summary) → first < last → last < length nodes →
    left ≡ join (node_at nodes (2 * first)) (node_at nodes (2 * first + 1)) →
    right ≡ join (node_at (set nodes first left) (2 * last)) (node_at (set nodes first left) (2 * last + 1)) →
    IsStep nodes (set (set nodes first left) last right) first last
step_two nodes first last left right order within left_is right_is =
    grind (arith, length-set, read_other, read_same)

-- a node with parts is that of its parts, if these and the node aren't changed
pub joined_same : (old new : List Summary) (index : ℕ) → node_at new index ≡ node_at old index →
    node_at new (2 * index) ≡ node_at old (2 * index) → node_at new (2 * index + 1) ≡ node_at old (2 * index + 1) →
    IsJoined old index → IsJoined new index
joined_same old new index here left right joined = cc

-- a node above a leaf is right once it is joined
here_right : {bits : List ℕ} {old : List Summary} {top lower left right index : ℕ} (leaf : ℕ) → IsJoiningAt bits old
    top lower left right → IsNode top (suc lower) index → (leaf ≡ left) ⊎ (leaf ≡ right) → first_leaf (suc lower)
    index ≤ leaf → leaf < first_leaf (suc lower) index + width (suc lower) → join (node_at old (2 * index)) (node_at
    old (2 * index + 1)) ≡ summary (node_words bits top (suc lower) index)
unfolding first_leaf width
here_right {bits} {old} {top} {lower} {left} {right} {index} leaf at is which from to =
    let next = first_leaf-next lower (2 * index) in
    let block = same_block (suc lower) index in
    let pos = width-pos lower in
    let left_is = at.is_right lower (2 * index) (left_part is) (inl (omega arith)) in
    let right_is = at.is_right lower (2 * index + 1) (right_part is) (inl (omega arith)) in
    join_right bits old lower (omega (arith, at.small, at.bitmaps)) is (grind arith) (grind arith)

-- a node of another height isn't changed
other_node : {old new : List Summary} {top first last height low index : ℕ} → IsStep old new first last → IsNode top
    height first → IsNode top height last → IsNode top low index → low ≢ height → node_at new index ≡ node_at old
    index
other_node step first_node last_node is ne =
    step.beside _ (λ e. ne (same_height is (rw e first_node))) (λ e. ne (same_height is (rw e last_node)))

-- The nodes of one height more are right.
pub joined_step : {bits : List ℕ} {old new : List Summary} {top lower left right : ℕ} → lower < top → IsJoiningAt bits
    old top lower left right → IsStep old new (above (suc lower) left) (above (suc lower) right) → IsJoiningAt bits
    new top (suc lower) left right
joined_step {bits} {old} {new} {top} {lower} {left} {right} lt at step =
    let first = above (suc lower) left in
    let last = above (suc lower) right in
    let first_node : IsNode top (suc lower) first = above_is top (suc lower) left at.left_is (omega arith) in
    let last_node : IsNode top (suc lower) last = above_is top (suc lower) right at.right_is (omega arith) in
    let first_cover = above_covers (suc lower) left in
    let last_cover = above_covers (suc lower) right in
    let first_right : IsRight bits new top (suc lower) first =
    step.first_is ∙ here_right left at first_node (inl refl) first_cover.from first_cover.to in
    let last_right : IsRight bits new top (suc lower) last =
    step.last_is ∙ here_right right at last_node (inr refl) last_cover.from last_cover.to in
    let other : (low index : ℕ) → IsNode top low index → low ≢ suc lower → node_at new index ≡ node_at old index =
    λ low index is ne. other_node step first_node last_node is ne in
    record {
      bitmaps = at.bitmaps;
      small = at.small;
      node_count = step.same_length ∙ at.node_count;
      left_is = at.left_is;
      right_is = at.right_is;
      is_right = λ low index is which. elim (cases_eq low (suc lower)) [
        | inl same ↦ grind (arith, apart_above)
        | inr ne ↦ grind arith
      ];
      joined = λ low index is some more a b c d.
          let up = parent is some in
          joined_same old new (index / 2) (other (suc low) (index / 2) up (λ e. absurd (omega arith)))
          (other low (2 * (index / 2)) (left_part up) (λ e. absurd (omega arith)))
          (other low (2 * (index / 2) + 1) (right_part up) (λ e. absurd (omega arith)))
          (at.joined low index is some (omega arith) a b c d);
    }

pub tree_done : {bits : List ℕ} {nodes : List Summary} {top lower left right : ℕ} → top ≤ lower → IsJoiningAt bits
    nodes top lower left right → IsTree bits nodes
tree_done le at = grind arith

-- if a node doesn't change when it is joined, those above it are right
tree_up : (fuel : ℕ) (bits : List ℕ) (nodes : List Summary) (top lower left right : ℕ) →
    top ≡ lower + fuel → above (suc lower) left ≡ above (suc lower) right →
    IsJoiningAt bits nodes top lower left right →
    (0 < above (suc lower) left → IsJoined nodes (above (suc lower) left)) → IsTree bits nodes
unfolding above
tree_up zero bits nodes top lower left right e same at joined = grind arith
tree_up (suc fuel) bits nodes top lower left right e same at joined =
    let index = above (suc lower) left in
    let node : IsNode top (suc lower) index = above_is top (suc lower) left at.left_is (omega arith) in
    let cover = above_covers (suc lower) left in
    let other = rw (← same) at (above_covers (suc lower) right) in
    let here : IsJoined nodes index = joined (omega (arith, node.from, (inner node (omega arith)).0)) in
    let step : IsStep nodes nodes index (above (suc lower) right) = rw (← same) (record {
      same_length = refl;
      first_is = here;
      last_is = here;
      beside = λ at_other ne also. refl;
    }) in
    tree_up fuel bits nodes top (suc lower) left right (omega arith) (ap (λ n. n / 2) same)
    (joined_step (omega arith) at step)
    (λ more. at.joined (suc lower) index node (omega arith) (omega arith) cover.from cover.to other.from other.to)

-- The same, at indices.
pub joining_step : {bits : List ℕ} {old new : List Summary} {first last : ℕ} → 0 < last → IsJoining bits old first
    last → IsStep old new first last → IsJoining bits new (first / 2) (last / 2)
unfolding above
joining_step {bits} {old} {new} {first} some is step =
    let within : suc is.lower ≤ is.height =
    above_within (suc is.lower) is.at.right_is (omega (arith, is.last_is)) in
    record {
      height = is.height;
      lower = suc is.lower;
      left = is.left;
      right = is.right;
      first_is = ap (λ n. n / 2) is.first_is;
      last_is = ap (λ n. n / 2) is.last_is;
      at = joined_step (omega arith) is.at (rw (is.first_is, is.last_is) at step);
    }

pub joining_done : {bits : List ℕ} {nodes : List Summary} {last : ℕ} → IsJoining bits nodes 0 last → IsTree bits nodes
joining_done {bits} {nodes} is = elim (cases_lt is.lower is.height) [
  | inl lt ↦
      let node = above_is is.height (suc is.lower) is.left is.at.left_is (omega arith) in
      absurd (omega (arith, is.first_is, inner node (omega arith)))
  | inr ge ↦ tree_done ge is.at
]

pub joining_same : {bits : List ℕ} {nodes : List Summary} {index : ℕ} → 0 < index → IsJoined nodes index → IsJoining
    bits nodes index index → IsTree bits nodes
joining_same {bits} {nodes} some joined is =
    let within : suc is.lower ≤ is.height =
    above_within (suc is.lower) is.at.left_is (omega (arith, is.first_is)) in
    tree_up (is.height - is.lower) bits nodes is.height is.lower is.left is.right (omega arith)
    (sym is.first_is ∙ is.last_is) is.at (λ more. subst (IsJoined nodes) is.first_is joined)

-- the steps of the loops that join nodes
pub ruleset steps = (length-set, step_one, step_two, joining_step)
