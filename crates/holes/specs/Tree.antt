-- What the nodes of a tree over bitmaps tell of the free words.
use Rattle.std.specs.Prelude.{◌≡◌, ◌≢◌, ℕ, zero, suc, ◌+◌, ◌-◌, ◌*◌, ◌/◌, ◌%◌, ◌^◌, ◌<◌, ◌≤◌, min, max, nat_eq}
use Rattle.std.specs.Prelude.{nat_le, if◌then◌else◌, Bool, true, false, List, [], ◌∷◌, length, slice_index_or}
use Rattle.std.specs.Prelude.{◌⊎◌, replicate}
use Rattle.std.specs.Int.{bit_at}
use Rattle.holes.specs.declared.summary.Summary.{Summary}
use Rattle.holes.specs.declared.tree.Changed.{Changed}
use Rattle.holes.specs.FreeWords.{free_count, hole_count, front_run, widest}

-- whether each of some words is free
abbrev pub all_free : List Bool → Bool
all_free [] = true
all_free (false ∷ free) = false
all_free (true ∷ free) = all_free free

-- how many words are free in a row up to the end
abbrev pub back_run : List Bool → ℕ
back_run [] = 0
back_run (word ∷ free) = if all_free (word ∷ free) then 1 + length free else back_run free

-- the first place from which on `len` words are free in a row, in words that have such a place
abbrev pub lowest_fit : ℕ → List Bool → ℕ
lowest_fit len [] = 0
lowest_fit len (word ∷ free) = if nat_le len (front_run (word ∷ free)) then 0 else 1 + lowest_fit len free

abbrev pub summary : List Bool → Summary
summary free = record { front = front_run free; back = back_run free; longest = widest free; whole = all_free free }

-- no word is free
abbrev pub nothing_free : Summary
nothing_free = record { front = 0; back = 0; longest = 0; whole = false }

-- a sum, or the largest number if the sum is greater
abbrev pub sum_at_most : ℕ → ℕ → ℕ
sum_at_most a b = min (a + b) (2 ^ 32 - 1)

-- the summary of words and of those after them
abbrev pub join : Summary → Summary → Summary
join left right = record {
  front = if left.whole then sum_at_most left.front right.front else left.front;
  back = if right.whole then sum_at_most right.back left.back else right.back;
  longest = max (max left.longest right.longest) (sum_at_most left.back right.front);
  whole = if left.whole then right.whole else false;
}

-- whether a bit is set
abbrev pub is_set : ℕ → ℕ → Bool
is_set bits word = nat_eq (bit_at bits word) 1

-- the words from a place on, as a function says which are free
abbrev pub words_from : (ℕ → Bool) → ℕ → ℕ → List Bool
words_from each place zero = []
words_from each place (suc len) = each place ∷ words_from each (place + 1) len

-- the 64 words of a bitmap
unfoldable pub words_of_bits : ℕ → List Bool
words_of_bits bits = words_from (is_set bits) 0 64

-- whether a word is free, of the words of some bitmaps
abbrev pub word_at : List ℕ → ℕ → Bool
word_at bits word = is_set (slice_index_or bits (word / 64) 0) (word % 64)

-- all words of some bitmaps
abbrev pub words_of : List ℕ → List Bool
words_of bits = words_from (word_at bits) 0 (64 * length bits)

-- the words of the bitmaps from an index up to another
abbrev pub words_between : List ℕ → ℕ → ℕ → List Bool
words_between bits first end = words_from (word_at bits) (64 * first) (64 * (end - first))

-- the 256 words of a leaf
abbrev pub leaf_words : List ℕ → ℕ → List Bool
leaf_words bits leaf = words_from (word_at bits) (256 * leaf) 256

-- the bitmaps with the words of place..place + len free, or not free, and the others as they were
pub record IsFilled (old new : List ℕ) (place len : ℕ) (value : Bool) : Type 0 where
  pub same_length : length new ≡ length old
  pub inside : (word : ℕ) → place ≤ word → word < place + len → word_at new word ≡ value
  pub before : (word : ℕ) → word < place → word_at new word ≡ word_at old word
  pub behind : (word : ℕ) → place + len ≤ word → word < 64 * length old → word_at new word ≡ word_at old word

-- the items with those of first..end set to a value, and the others as they were
pub record IsWritten {A : Type 0} (old new : List A) (first end : ℕ) (value : A) : Type 0 where
  pub same_length : length new ≡ length old
  pub inside : (index : ℕ) (none : A) → first ≤ index → index < end → slice_index_or new index none ≡ value
  pub outside : (index : ℕ) (none : A) → (index < first) ⊎ (end ≤ index) →
      slice_index_or new index none ≡ slice_index_or old index none

-- the node at an index, past the end one without a free word
abbrev pub node_at : List Summary → ℕ → Summary
node_at nodes index = slice_index_or nodes index nothing_free

-- how many leaves there are below some nodes
abbrev pub leaf_count : List Summary → ℕ
leaf_count nodes = length nodes / 2

-- how many leaves a node of some height has
unfoldable pub width : ℕ → ℕ
width zero = 1
width (suc height) = width height + width height

-- the index of the first leaf below a node of some height
unfoldable pub first_leaf : ℕ → ℕ → ℕ
first_leaf zero index = index
first_leaf (suc height) index = first_leaf height (2 * index)

-- a node of some height, in a tree of a height
pub record IsNode (top height index : ℕ) : Type 0 where
  pub depth : ℕ
  pub at : height + depth ≡ top
  pub from : 2 ^ depth ≤ index
  pub to : index < 2 * 2 ^ depth

-- the words of a node of some height
unfoldable pub node_words : List ℕ → ℕ → ℕ → ℕ → List Bool
node_words bits top height index =
    words_from (word_at bits) (256 * (first_leaf height index - 2 ^ top)) (256 * width height)

-- a node is that of its words
abbrev pub IsRight : List ℕ → List Summary → ℕ → ℕ → ℕ → Type 0
IsRight bits nodes top height index = node_at nodes index ≡ summary (node_words bits top height index)

-- a block has eight leaves: all words of the block of a leaf are free, or none is
abbrev pub IsAlike : List ℕ → ℕ → ℕ → Type 0
IsAlike bits top leaf =
    (value : Bool) × ((word : ℕ) → (2 ^ top + word / 256) / 8 ≡ leaf / 8 → word_at bits word ≡ value)

-- a node needn't be right, since it lies below a block of which all words are free, or none is
pub record IsHidden (bits : List ℕ) (top height index : ℕ) : Type 0 where
  pub low : height < 3
  pub tall : 3 ≤ top
  pub alike : IsAlike bits top (first_leaf height index)

-- no leaf below a node is one of first..end
abbrev pub IsBeside : ℕ → ℕ → ℕ → ℕ → Type 0
IsBeside height index first end = (first_leaf height index + width height ≤ first) ⊎ (end ≤ first_leaf height index)

-- no leaf of the block of a leaf is one of first..end
abbrev pub IsBlockBeside : ℕ → ℕ → ℕ → Type 0
IsBlockBeside leaf first end = (8 * (leaf / 8) + 8 ≤ first) ⊎ (end ≤ 8 * (leaf / 8))

-- the node at an index is that of its two parts
abbrev pub IsJoined : List Summary → ℕ → Type 0
IsJoined nodes index = node_at nodes index ≡ join (node_at nodes (2 * index)) (node_at nodes (2 * index + 1))

-- the nodes are the same, but for those of the leaves from one up to another
abbrev pub AreSameBesideLeaves : List Summary → List Summary → ℕ → ℕ → Type 0
AreSameBesideLeaves old new first end =
    (index : ℕ) → (index < leaf_count old + first) ⊎ (leaf_count old + end ≤ index) →
    node_at new index ≡ node_at old index

-- the tree over some bitmaps: each node is right, or below a block of which all words are free or none is
pub record IsTree (bits : List ℕ) (nodes : List Summary) : Type 0 where
  pub height : ℕ
  pub bitmaps : length bits ≡ 4 * 2 ^ height
  pub small : 64 * length bits < 2 ^ 32
  pub node_count : length nodes ≡ 2 * 2 ^ height
  pub is_right : (low index : ℕ) → IsNode height low index →
      IsRight bits nodes height low index ⊎ IsHidden bits height low index

-- the same, but for the nodes of the leaves that changed, and those above them. No node of their blocks is hidden,
-- and a
-- node with a part above all of them is that of its parts
pub record IsTreeBeside (bits : List ℕ) (nodes : List Summary) (changed : Changed) : Type 0 where
  pub height : ℕ
  pub bitmaps : length bits ≡ 4 * 2 ^ height
  pub small : 64 * length bits < 2 ^ 32
  pub node_count : length nodes ≡ 2 * 2 ^ height
  pub order : (changed.end ≡ 0) ⊎ (changed.first < changed.end)
  pub within : changed.end ≤ 2 ^ height
  pub is_right : (low index : ℕ) → IsNode height low index →
      IsBeside low index (2 ^ height + changed.first) (2 ^ height + changed.end) →
      IsRight bits nodes height low index ⊎ (IsHidden bits height low index
      × IsBlockBeside (first_leaf low index) (2 ^ height + changed.first) (2 ^ height + changed.end))
  pub joined : changed.first < changed.end → (low index : ℕ) → IsNode height low index → 1 < index →
      first_leaf low index ≤ 2 ^ height + changed.first →
      2 ^ height + changed.end ≤ first_leaf low index + width low → IsJoined nodes (index / 2)

-- a node of new nodes is right if it was right before, or if it is one of the blocks of two leaves
abbrev pub AreOpened : List Summary → List Summary → ℕ → ℕ → Type 0
AreOpened old new first last =
    (bits : List ℕ) (tree : IsTree bits old) (low index : ℕ) → IsNode tree.height low index →
    IsRight bits old tree.height low index ⊎ ((first_leaf low index / 8 ≡ (leaf_count old + first) / 8)
    ⊎ (first_leaf low index / 8 ≡ (leaf_count old + last) / 8)) → IsRight bits new tree.height low index

-- the index of the node of some height above a leaf
unfoldable pub above : ℕ → ℕ → ℕ
above zero leaf = leaf
above (suc height) leaf = above height leaf / 2

-- the tree over some bitmaps, but for the nodes above two leaves that are higher than `lower`
pub record IsJoiningAt (bits : List ℕ) (nodes : List Summary) (top lower left right : ℕ) : Type 0 where
  pub bitmaps : length bits ≡ 4 * 2 ^ top
  pub small : 64 * length bits < 2 ^ 32
  pub node_count : length nodes ≡ 2 * 2 ^ top
  pub left_is : IsNode top 0 left
  pub right_is : IsNode top 0 right
  pub is_right : (low index : ℕ) → IsNode top low index →
      (low ≤ lower) ⊎ (IsBeside low index left (left + 1) × IsBeside low index right (right + 1)) →
      IsRight bits nodes top low index ⊎ (IsHidden bits top low index
      × IsBlockBeside (first_leaf low index) left (left + 1) × IsBlockBeside (first_leaf low index) right (right + 1))
  pub joined : (low index : ℕ) → IsNode top low index → 1 < index → lower < low →
      first_leaf low index ≤ left → left < first_leaf low index + width low →
      first_leaf low index ≤ right → right < first_leaf low index + width low → IsJoined nodes (index / 2)

-- the same, but for the nodes at two indices of one height, and those above them
pub record IsJoining (bits : List ℕ) (nodes : List Summary) (first last : ℕ) : Type 0 where
  pub height : ℕ
  pub lower : ℕ
  pub left : ℕ
  pub right : ℕ
  pub first_is : first ≡ above (suc lower) left
  pub last_is : last ≡ above (suc lower) right
  pub at : IsJoiningAt bits nodes height lower left right

-- the nodes strictly between two of one depth are written, but for those further than `side` from both, if it is more
-- than one
pub record IsLevelWritten (old new : List Summary) (first last side : ℕ) (node : Summary) : Type 0 where
  pub same_length : length new ≡ length old
  pub outside : (index : ℕ) → (index ≤ first) ⊎ (last ≤ index) → node_at new index ≡ node_at old index
  pub inside : (index : ℕ) → first < index → index < last → (node_at new index ≡ node)
      ⊎ ((2 ≤ side) × (first + side ≤ index) × (index + side ≤ last))

-- the nodes at two indices are leaves of one tree
pub record AreTwoLeaves (first last : ℕ) : Type 0 where
  pub height : ℕ
  pub small : 256 * 2 ^ height < 2 ^ 32
  pub first_is : IsNode height 0 first
  pub last_is : IsNode height 0 last

-- the nodes below a block are those of words that are all free, or all not free, and the others are as they were
pub record IsBlockWritten (old new : List Summary) (block : ℕ) (value : Bool) : Type 0 where
  pub same_length : length new ≡ length old
  pub leaves : (index : ℕ) → index / 8 ≡ block → node_at new index ≡ summary (replicate 256 value)
  pub pairs : (index : ℕ) → index / 4 ≡ block → node_at new index ≡ summary (replicate 512 value)
  pub halves : (index : ℕ) → index / 2 ≡ block → node_at new index ≡ summary (replicate 1024 value)
  pub outside : (index : ℕ) → index / 8 ≢ block → index / 4 ≢ block → index / 2 ≢ block →
      node_at new index ≡ node_at old index

-- the nodes strictly between two leaves are those of words that are all free, or all not free, but for those that lie
-- below a block between those of the two leaves
pub record AreWrittenBetween (old new : List Summary) (top left right : ℕ) (value : Bool) : Type 0 where
  pub outside : (low index : ℕ) → IsNode top low index →
      (first_leaf low index ≤ left) ⊎ (right < first_leaf low index + width low) →
      node_at new index ≡ node_at old index
  pub inside : (low index : ℕ) → IsNode top low index → left < first_leaf low index →
      first_leaf low index + width low ≤ right → (node_at new index ≡ summary (replicate (256 * width low) value))
      ⊎ ((low < 3) × IsBlockBeside (first_leaf low index) left (left + 1)
      × IsBlockBeside (first_leaf low index) right (right + 1))

-- no word is free below a place
abbrev pub NoneBelow : List ℕ → ℕ → Type 0
NoneBelow bits low = (word : ℕ) → word < low → word_at bits word ≡ false

-- no word is free below a place, but for those of place..place + len
abbrev pub NoneBelowBeside : List ℕ → ℕ → ℕ → ℕ → Type 0
NoneBelowBeside bits low place len =
    (word : ℕ) → word < low → (word_at bits word ≡ false) ⊎ ((place ≤ word) × (word < place + len))

abbrev pub IsPowerOfTwo : ℕ → Type 0
IsPowerOfTwo n = (exponent : ℕ) × (n ≡ 2 ^ exponent)

-- the free words of a region of `size` words: no word is free before a bitmap, `free` are free, and there is room for
-- `most` holes
pub record IsHoles (bits : List ℕ) (nodes : List Summary) (changed : Changed) (near size free most : ℕ) : Type 0 where
  pub tree : IsTreeBeside bits nodes changed
  pub few_changed : changed.end ≤ changed.first + 3
  pub near_within : near < length bits
  pub none_below : NoneBelow bits (64 * near)
  pub within : size ≤ 64 * length bits
  pub behind : (word : ℕ) → size ≤ word → word < 64 * length bits → word_at bits word ≡ false
  pub free_is : free ≡ free_count (words_from (word_at bits) 0 size)
  pub few : hole_count (words_from (word_at bits) 0 size) ≤ most
  pub some : 1 ≤ most
