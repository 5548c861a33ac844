-- The nodes between two leaves, or below a block, of which all words are free, or none is.
use Rattle.std.proofs.Common.{◌≡◌, ◌≢◌, ℕ, ◌+◌, ◌*◌, ◌/◌, ◌^◌, ◌<◌, ◌≤◌, Bool, List, ◌⊎◌, sym, ◌∙◌, inl, inr, arith}
use Rattle.std.proofs.Common.{zero, suc}
use Rattle.std.specs.Prelude.{replicate}
use Rattle.std.proofs.lemmas.Bool.{cases_eq}
use Rattle.std.proofs.lemmas.List.{length-replicate, replicate-append-replicate}
use Rattle.holes.specs.declared.summary.Summary.{Summary}
use Rattle.holes.specs.Tree.{node_at, nothing_free, join, summary, width, first_leaf, IsNode, IsBlockBeside, above}
use Rattle.holes.specs.Tree.{IsLevelWritten, AreWrittenBetween, IsWritten, IsBlockWritten}
use Rattle.holes.proofs.Runs.{summary-append}
use Rattle.holes.proofs.Nodes.{above_is, above_covers, above_within, first_leaf-lt, same_height, span, width-pos}

-- how far from the ends of a range nodes of some height are written
unfoldable pub side_at : ℕ → ℕ
side_at zero = 8
side_at (suc zero) = 4
side_at (suc (suc zero)) = 2
side_at (suc (suc (suc zero))) = 1
side_at (suc (suc (suc (suc height)))) = 0

pub side_half : (height : ℕ) → (side_at (suc height) ≡ side_at height / 2) × (side_at height ≤ 8)
unfolding side_at
side_half height = grind arith

-- two summaries of words that are all alike
pub doubled : (n : ℕ) (value : Bool) (node : Summary) → n + n < 2 ^ 32 → node ≡ summary (replicate n value) →
    join node node ≡ summary (replicate (n + n) value)
doubled n value node small is =
    let len = length-replicate n value in
    rw (is, ← replicate-append-replicate n n value)
    (sym (summary-append (replicate n value) (replicate n value) (omega arith)))

-- the nodes between, up to a height
pub record AreWrittenUnder (old new : List Summary) (top height left right : ℕ) (value : Bool) : Type 0 where
  pub outside : (low index : ℕ) → IsNode top low index →
      (first_leaf low index ≤ left) ⊎ (right < first_leaf low index + width low) →
      node_at new index ≡ node_at old index
  pub inside : (low index : ℕ) → low < height → IsNode top low index → left < first_leaf low index →
      first_leaf low index + width low ≤ right → (node_at new index ≡ summary (replicate (256 * width low) value))
      ⊎ ((low < 3) × IsBlockBeside (first_leaf low index) left (left + 1)
      × IsBlockBeside (first_leaf low index) right (right + 1))

pub none_under : (nodes : List Summary) (top left right : ℕ) (value : Bool) →
    AreWrittenUnder nodes nodes top 0 left right value
none_under nodes top left right value = grind arith

-- a node that isn't written near the ends lies below another block than these
far : (height left right index : ℕ) → 2 ≤ side_at height → above height left + side_at height ≤ index →
    index + side_at height ≤ above height right → (height < 3) × IsBlockBeside (first_leaf height index) left (left + 1)
    × IsBlockBeside (first_leaf height index) right (right + 1)
unfolding above first_leaf side_at
far height left right index side from to = grind arith

-- a node of some height strictly between two leaves is strictly between the nodes above these
pub between : (height left right index : ℕ) → left < first_leaf height index →
    first_leaf height index + width height ≤ right → (above height left < index) × (index < above height right)
between height left right index from to =
    grind (
      arith,
      above_covers height left,
      above_covers height right,
      first_leaf-lt height index (above height left),
      first_leaf-lt height (above height right) index,
      width-pos height,
    )

-- and the other way round
not_between : (height left right index : ℕ) →
    (first_leaf height index ≤ left) ⊎ (right < first_leaf height index + width height) →
    (index ≤ above height left) ⊎ (above height right ≤ index)
not_between height left right index out =
    grind (
      arith,
      above_covers height left,
      above_covers height right,
      first_leaf-lt height (above height left) index,
      first_leaf-lt height index (above height right),
    )

node_between : {top height first last index : ℕ} → IsNode top height first → IsNode top height last → first < index →
    index < last → IsNode top height index
node_between first_is last_is from to = grind arith

-- The nodes of one height more.
pub level_written : {old nodes new : List Summary} {top height left right : ℕ} {value : Bool} {node : Summary} →
    IsNode top 0 left → IsNode top 0 right → above height left + 1 < above height right → node ≡ summary (replicate
    (256 * width height) value) → AreWrittenUnder old nodes top height left right value → IsLevelWritten nodes new
    (above height left) (above height right) (side_at height) node → AreWrittenUnder old new top (suc height) left
    right value
level_written {nodes} {new} {top} {height} {left} {right} {value} left_is right_is long node_is under level =
    let within : height ≤ top = above_within height right_is (omega arith) in
    let first_node = above_is top height left left_is within in
    let last_node = above_is top height right right_is within in
    let other : (low index : ℕ) → IsNode top low index → low ≢ height → node_at new index ≡ node_at nodes index =
    λ low index is ne.
    let out : (index ≤ above height left) ⊎ (above height right ≤ index) =
    grind (arith, same_height {other = height} is, node_between {index = index} first_node last_node) in
    level.outside index out in
    record {
      outside = grind (arith, not_between);
      inside = λ low index lt is from to. elim (cases_eq low height) [
        | inl same ↦ (let here = between low left right index from to in grind (arith, far))
        | inr ne ↦ grind arith
      ];
    }

-- the width of two nodes that are apart
pub two_widths : {top : ℕ} (height : ℕ) {left right : ℕ} → IsNode top 0 left → IsNode top 0 right → above height left
    + 1 < above height right → 2 * width height ≤ 2 ^ top
two_widths {top} height {left} {right} left_is right_is long =
    let within : height ≤ top = above_within height right_is (omega arith) in
    let first = span top height (above height left) (above_is top height left left_is within) in
    let last = span top height (above height right) (above_is top height right right_is within) in
    omega (arith, first.from, last.to, first_leaf-lt height (above height left) (above height right) (omega arith))

-- No node lies between two that follow one another, and none of those above them.
none_between : (low height left right index : ℕ) → height ≤ low → above height right ≤ above height left + 1 →
    left < first_leaf low index → first_leaf low index + width low ≤ right → ⊥
unfolding first_leaf width
none_between zero height left right index le near from to =
    let same : height ≡ 0 = omega arith in
    absurd (omega (arith, between 0 left right index from to, rw same at near))
none_between (suc low) height left right index le near from to = elim (cases_eq height (suc low)) [
  | inl same ↦ absurd (omega (arith, between (suc low) left right index from to, rw same at near))
  | inr ne ↦ none_between low height left right (2 * index) (omega arith) near from (omega (arith, width-pos low))
]

pub written_between : {old new : List Summary} {top height left right : ℕ} {value : Bool} → above height right ≤ above
    height left + 1 → AreWrittenUnder old new top height left right value → AreWrittenBetween old new top left right
    value
written_between near under = grind (arith, none_between)

-- The nodes below a block.
outside_block : {old one two new : List Summary} {block : ℕ} {leaf pair half : Summary} →
    IsWritten old one (8 * block) (8 * block + 8) leaf → IsWritten one two (4 * block) (4 * block + 4) pair →
    IsWritten two new (2 * block) (2 * block + 2) half → (index : ℕ) → index / 8 ≢ block → index / 4 ≢ block →
    index / 2 ≢ block → node_at new index ≡ node_at old index
outside_block first second third index not_leaf not_pair not_half = grind arith

pub block_written : {old one two new : List Summary} {block : ℕ} {value : Bool} {leaf pair half : Summary} →
    1 ≤ block → leaf ≡ summary (replicate 256 value) → pair ≡ summary (replicate 512 value) →
    half ≡ summary (replicate 1024 value) → IsWritten old one (8 * block) (8 * block + 8) leaf →
    IsWritten one two (4 * block) (4 * block + 4) pair → IsWritten two new (2 * block) (2 * block + 2) half →
    IsBlockWritten old new block value
block_written {block} some leaf_is pair_is half_is first second third = record {
  same_length = third.same_length ∙ (second.same_length ∙ first.same_length);
  leaves = λ index at. third.outside index nothing_free (inr (omega arith))
      ∙ (second.outside index nothing_free (inr (omega arith))
      ∙ (first.inside index nothing_free (omega arith) (omega arith) ∙ leaf_is));
  pairs = λ index at. third.outside index nothing_free (inr (omega arith))
      ∙ (second.inside index nothing_free (omega arith) (omega arith) ∙ pair_is);
  halves = λ index at. third.inside index nothing_free (omega arith) (omega arith) ∙ half_is;
  outside = outside_block first second third;
}
