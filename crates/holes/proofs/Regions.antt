-- The words of a region, which are the first of its bitmaps' words.
use Rattle.std.proofs.Common.{◌≡◌, ℕ, ◌+◌, ◌-◌, ◌*◌, ◌<◌, ◌≤◌, Bool, true, false, ◌⊎◌, List, ◌++◌, ◌^◌, length, take}
use Rattle.std.proofs.Common.{get_or, refl, sym, ◌∙◌, ap, arith, zero, suc}
use Rattle.std.specs.Prelude.{replicate}
use Rattle.holes.specs.declared.summary.Summary.{Summary}
use Rattle.holes.specs.declared.tree.Changed.{Changed}
use Rattle.std.proofs.lemmas.List.{get_or_past, get_or-replicate, length-replicate}
use Rattle.std.proofs.lemmas.Nat.{pow_pos}
use Rattle.std.proofs.lemmas.Nat.Bits.{bit_at-zero}
use Rattle.holes.specs.FreeWords.{Region, is_free, NoneFree, IsLowestFit, set_range, free_from, free_count, hole_count}
use Rattle.holes.specs.FreeWords.{widest}
use Rattle.holes.specs.Tree.{words_from, word_at, words_of, lowest_fit, nothing_free, NoneBelow, NoneBelowBeside}
use Rattle.holes.specs.Tree.{IsFilled, IsTree, IsTreeBeside, IsHoles, IsPowerOfTwo, node_words, width}
use Rattle.holes.proofs.Ranges.{set_ranges, last_of, free_count_given, free_count_taken, free_count-le-length}
use Rattle.holes.proofs.Ranges.{free_count-false, free_count-free_from, hole_count_after-false, set_range_same}
use Rattle.holes.proofs.Ranges.{length-set_range, same_words, length-free_from, free_from_below, free_from_above}
use Rattle.holes.proofs.Runs.{lowest-append_left, lowest_is_lowest, lowest_within}
use Rattle.holes.proofs.Bits.{length-words, word_in, words_from-add, all_words}
use Rattle.holes.proofs.Bitmaps.{widest_behind, summary_all}
use Rattle.holes.proofs.Nodes.{width-pos}
use Rattle.holes.proofs.Trees.{beside_none}
use Rattle.holes.proofs.Counts.{last_taken, hole_count_changed, hole_count_from}

-- no word is free from a place on
abbrev pub NoneFrom : List ℕ → ℕ → Type 0
NoneFrom bits size = (word : ℕ) → size ≤ word → word < 64 * length bits → word_at bits word ≡ false

region_words : (bits : List ℕ) (size : ℕ) → size ≤ 64 * length bits → NoneFrom bits size →
    words_of bits ≡ words_from (word_at bits) 0 size ++ replicate (64 * length bits - size) false
region_words bits size within none =
    grind (arith, words_from-add (word_at bits) 0 size (64 * length bits - size), all_words)

pub region_widest : (bits : List ℕ) (size : ℕ) → size ≤ 64 * length bits → NoneFrom bits size →
    widest (words_of bits) ≡ widest (words_from (word_at bits) 0 size)
region_widest bits size within none = grind (arith, region_words bits size within none, widest_behind)

pub region_lowest : (bits : List ℕ) (size len : ℕ) → size ≤ 64 * length bits → NoneFrom bits size → 1 ≤ len →
    len ≤ widest (words_from (word_at bits) 0 size) →
    lowest_fit len (words_of bits) ≡ lowest_fit len (words_from (word_at bits) 0 size)
region_lowest bits size len within none some fits =
    grind (arith, region_words bits size within none, lowest-append_left)

-- the words after a range was filled
pub filled_words : {old new : List ℕ} (size : ℕ) {place len : ℕ} {value : Bool} → size ≤ 64 * length old →
    place + len ≤ size → IsFilled old new place len value →
    words_from (word_at new) 0 size ≡ set_range (words_from (word_at old) 0 size) place len value
filled_words size within range filled = grind (arith, length-words, same_words, word_in, set_ranges)

pub filled_none_from : {old new : List ℕ} (size : ℕ) {place len : ℕ} {value : Bool} → place + len ≤ size → IsFilled
    old new place len value → NoneFrom old size → NoneFrom new size
filled_none_from size range filled none word ge lt = grind arith

-- the words after the first were taken and the others given
pub reset_words : {old middle new : List ℕ} (size : ℕ) {from : ℕ} → size ≤ 64 * length old → from ≤ size →
    IsFilled old middle 0 from false → IsFilled middle new from (size - from) true →
    words_from (word_at new) 0 size ≡ free_from from size
reset_words size within le first second =
    grind (arith, length-words, same_words, length-free_from, word_in, free_from_below, free_from_above)

pub same_region : (xs ys : List Bool) (m n : ℕ) → xs ≡ ys → m ≡ n →
    ◌≡◌ {A = Region} (record { free = xs; most = m }) (record { free = ys; most = n })
same_region xs ys m n words most = cc

-- How many words are free, and how many holes there are, after a range was taken or given.
last_before : (free : List Bool) (place : ℕ) → place ≤ length free →
    ((word : ℕ) → word + 1 ≡ place → is_free free word ≡ false) → last_of false (take place free) ≡ false
last_before free zero within none = refl
last_before free (suc place) within none = grind (arith, last_taken)

-- there are no more holes when the lowest fit was taken
takes_few : (free : List Bool) (len place : ℕ) → 1 ≤ len → place + len ≤ length free → IsLowestFit free len place →
    hole_count (set_range free place len false) ≤ hole_count free
takes_few free len place some within lowest =
    let before = last_before free place (omega arith) lowest.hole.before in
    grind (arith, set_range_same, hole_count_changed free place len some)

-- there is at most one more when words were given
gives_few : (free : List Bool) (place len : ℕ) → 1 ≤ len → place + len ≤ length free → NoneFree free place len →
    hole_count (set_range free place len true) ≤ hole_count free + 1
gives_few free place len some within none = grind (arith, set_range_same, hole_count_changed)

taken_low : {old new : List ℕ} {place len : ℕ} → IsFilled old new place len false → (word : ℕ) →
    word < 64 * length old → (word_at old word ≡ false) ⊎ ((place ≤ word) × (word < place + len)) →
    word_at new word ≡ false
taken_low filled word within none = grind arith

-- What callers see of the words, and what they see after a range was taken or given.
module _ {bits : List ℕ} {nodes : List Summary} {changed : Changed} {near size free most : ℕ} {region : Region}
    (is : IsHoles bits nodes changed near size free most)
    (view : ◌≡◌ {A = Region} (record { free = words_from (word_at bits) 0 size; most = most }) region) where
  pub view_length : length region.free ≡ size
  view_length = grind (arith, length-words)

  pub view_widest : widest (words_of bits) ≡ widest region.free
  view_widest = cc (region_widest bits size is.within is.behind)

  pub view_lowest : (len : ℕ) → 1 ≤ len → len ≤ widest region.free →
      lowest_fit len (words_of bits) ≡ lowest_fit len region.free
  view_lowest len some fits = grind (arith, region_lowest bits size len is.within is.behind)

  pub view_filled : {new : List ℕ} (place len : ℕ) {value : Bool} → place + len ≤ size →
      IsFilled bits new place len value → ◌≡◌ {A = Region}
      (record { free = words_from (word_at new) 0 size; most = most })
      (record { free = set_range region.free place len value; most = region.most })
  view_filled place len {value} within filled =
      same_region _ _ _ _ (filled_words size is.within within filled
      ∙ ap (λ (r : Region). set_range r.free place len value) view) (ap (λ (r : Region). r.most) view)

  -- other words, and then a range that is taken or given
  holes_with : {new : List ℕ} {new_nodes : List Summary} {new_changed : Changed} {new_near new_free : ℕ}
      (words : List Bool) → words_from (word_at new) 0 size ≡ words → length new ≡ length bits → NoneFrom new size →
      IsTreeBeside new new_nodes new_changed → new_changed.end ≤ new_changed.first + 3 → new_near < length bits →
      NoneBelow new (64 * new_near) → new_free ≡ free_count words → hole_count words ≤ most →
      IsHoles new new_nodes new_changed new_near size new_free most
  holes_with words words_are len behind tree few_changed near_within none_below free_is few = record {
    tree = tree;
    few_changed = few_changed;
    near_within = omega (arith, near_within, len);
    none_below = none_below;
    within = omega (arith, is.within, len);
    behind = behind;
    free_is = cc;
    few = omega (arith, ap hole_count words_are);
    some = is.some;
  }

  holes_after : {new : List ℕ} {new_nodes : List Summary} {new_changed : Changed} {new_near new_free : ℕ}
      (place len : ℕ) {value : Bool} → place + len ≤ size → IsFilled bits new place len value →
      IsTreeBeside new new_nodes new_changed → new_changed.end ≤ new_changed.first + 3 → new_near < length bits →
      NoneBelow new (64 * new_near) → new_free ≡ free_count (set_range region.free place len value) →
      hole_count (set_range region.free place len value) ≤ most →
      IsHoles new new_nodes new_changed new_near size new_free most
  holes_after place len within filled =
      holes_with _ (ap (λ (r : Region). r.free) (view_filled place len within filled)) filled.same_length
      (filled_none_from size within filled is.behind)

  -- the lowest fit is taken
  module _ {len place : ℕ} (some : 1 ≤ len) (fits : len ≤ widest region.free)
      (lowest : place ≡ lowest_fit len region.free) where
    pub taken_lowest : IsLowestFit region.free len place
    taken_lowest = rw lowest (lowest_is_lowest len region.free some fits)

    pub taken_within : place + len ≤ size
    taken_within = omega (arith, view_length, lowest, lowest_within len region.free some fits)

    taken_free : free ≡ free_count (set_range region.free place len false) + len
    taken_free =
        let range = free_count_taken region.free place len (omega (arith, view_length, taken_within))
        (λ word from to. taken_lowest.hole.inside word from (omega (arith, taken_lowest.fits))) in
        is.free_is ∙ (ap (λ (r : Region). free_count r.free) view ∙ range)

    pub taken_some : len ≤ free
    taken_some = omega (arith, taken_free)

    pub taken : {new : List ℕ} {new_nodes : List Summary} {new_changed : Changed} {new_near : ℕ} →
        IsFilled bits new place len false → IsTreeBeside new new_nodes new_changed →
        new_changed.end ≤ new_changed.first + 3 → new_near < length bits →
        NoneBelowBeside bits (64 * new_near) place len →
        IsHoles new new_nodes new_changed new_near size (free - len) most
    taken {new_near} filled tree few near_within none =
        holes_after place len taken_within filled tree few near_within
        (λ word lt. taken_low filled word (omega arith) (none word lt)) (omega (arith, taken_free))
        (omega (
          arith,
          takes_few region.free len place some (omega (arith, view_length, taken_within)) taken_lowest,
          ap (λ (r : Region). hole_count r.free) view,
          is.few,
        ))

  -- words that aren't free are given back
  module _ {place len : ℕ} (some : 1 ≤ len) (within : place + len ≤ length region.free)
      (none : NoneFree region.free place len) (room : hole_count region.free < region.most) where
    given_free : free_count (set_range region.free place len true) ≡ free + len
    given_free = omega (
      arith,
      free_count_given region.free place len within none,
      ap (λ (r : Region). free_count r.free) view,
      is.free_is,
    )

    pub given_within : free + len ≤ size
    given_within = omega (
      arith,
      given_free,
      view_length,
      free_count-le-length (set_range region.free place len true),
      length-set_range region.free place len true within,
    )

    pub given : {new : List ℕ} {new_nodes : List Summary} {new_changed : Changed} {new_near : ℕ} →
        IsFilled bits new place len true → IsTreeBeside new new_nodes new_changed →
        new_changed.end ≤ new_changed.first + 3 → new_near ≤ near → 64 * new_near ≤ place →
        IsHoles new new_nodes new_changed new_near size (free + len) most
    given filled tree few before low =
        holes_after place len (omega (arith, view_length, within)) filled tree few
        (omega (arith, is.near_within))
        (λ word lt. filled.before word (omega arith) ∙ is.none_below word (omega arith)) (sym given_free)
        (omega (
          arith,
          gives_few region.free place len some within none,
          room,
          ap (λ (r : Region). r.most) view,
        ))

  -- exactly the words from a place on are made free
  module _ {middle new : List ℕ} {from : ℕ} (le : from ≤ length region.free) (first : IsFilled bits middle 0 from false)
      (second : IsFilled middle new from (size - from) true) where
    reset_is : words_from (word_at new) 0 size ≡ free_from from size
    reset_is = reset_words size is.within (omega (arith, view_length, le)) first second

    pub view_reset : ◌≡◌ {A = Region} (record { free = words_from (word_at new) 0 size; most = most })
        (record { free = free_from from (length region.free); most = region.most })
    view_reset =
        same_region _ _ _ _ (reset_is ∙ ap (free_from from) (sym view_length)) (ap (λ (r : Region). r.most) view)

    pub reset : {new_nodes : List Summary} {new_changed : Changed} {new_near : ℕ} →
        IsTreeBeside new new_nodes new_changed → new_changed.end ≤ new_changed.first + 3 → new_near < length bits →
        64 * new_near ≤ from → IsHoles new new_nodes new_changed new_near size (size - from) most
    reset tree few_changed near_within before =
        let within : from ≤ size = omega (arith, view_length, le) in
        holes_with _ reset_is (second.same_length ∙ first.same_length)
        (filled_none_from size (omega arith) second (filled_none_from size (omega arith) first is.behind)) tree
        few_changed near_within
        (λ word lt. second.before word (omega arith) ∙ first.inside word (omega arith) (omega arith))
        (sym (free_count-free_from from size)) (grind (arith, hole_count_from from size, is.some))

-- A region without a free word.
default_at : {A : Type 0} (n k : ℕ) (value : A) → get_or (replicate n value) k value ≡ value
default_at n k value = grind (arith, get_or-replicate, get_or_past, length-replicate)

pub no_words : (leaves word : ℕ) → word_at (replicate leaves 0) word ≡ false
no_words leaves word = grind (arith, default_at {A = ℕ}, bit_at-zero)

node_of_none : (n top low index : ℕ) → node_words (replicate n 0) top low index ≡ replicate (256 * width low) false
unfolding node_words
node_of_none n top low index = grind (arith, all_words, no_words)

pub tree_of_none : (leaves : ℕ) → IsPowerOfTwo leaves → 256 * leaves < 2 ^ 32 →
    IsTree (replicate (4 * leaves) 0) (replicate (2 * leaves) nothing_free)
tree_of_none leaves power small =
    grind (arith, length-replicate, default_at {A = Summary}, node_of_none, summary_all, width-pos)

pub holes_of_none : (leaves size most : ℕ) → IsPowerOfTwo leaves → 256 * leaves < 2 ^ 32 → size ≤ 256 * leaves →
    1 ≤ most → IsHoles (replicate (4 * leaves) 0) (replicate (2 * leaves) nothing_free)
    (record { first = 0; end = 0 }) 0 size 0 most
holes_of_none leaves size most power small within some =
    let len = length-replicate {A = ℕ} (4 * leaves) 0 in
    let words : words_from (word_at (replicate (4 * leaves) 0)) 0 size ≡ replicate size false =
    grind (arith, all_words, no_words) in
    let tree = beside_none (tree_of_none leaves power small) in
    let pos = pow_pos power.0 in
    grind (arith, no_words, free_count-false, hole_count_after-false)

-- the same words after the nodes were joined, with none free before another bitmap
pub holes_joined : {bits : List ℕ} {nodes new : List Summary} {changed : Changed} {near new_near size free most : ℕ} →
    IsHoles bits nodes changed near size free most → IsTree bits new → new_near < length bits →
    NoneBelow bits (64 * new_near) → IsHoles bits new (record { first = 0; end = 0 }) new_near size free most
holes_joined is tree within none = grind (arith, beside_none)
