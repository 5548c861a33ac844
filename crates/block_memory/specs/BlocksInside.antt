-- How the blocks of a memory are kept: the span of each number in a list of words, which begins with `front` words, one
-- of each number, and goes on with the words of the region; and at the first word of each block in the region its
-- number.
use Rattle.std.specs.Prelude.{◌≡◌, ◌⊎◌, ℕ, ℤ, ◌+◌, ◌-◌, ◌<◌, ◌≤◌, List, map, length, take, drop, Option, Some, None}
use Rattle.std.specs.Prelude.{slice_index}
use Rattle.block_memory.specs.Table.{value_at}
use Rattle.block_memory.specs.Layout.{PlacedBlock}
use Rattle.block_memory.specs.declared.span.Span.{Span}

-- how many words of a span lie in the region
abbrev pub covered_in : ℕ → Span → ℕ
covered_in front s = s.len - (front - s.place)

-- a span of these words
abbrev pub block_of_span : ℕ → List ℤ → Option Span → Option PlacedBlock
block_of_span front words None = None
block_of_span front words (Some s) =
    Some (record {
      owner = s.owner;
      place = s.place - front;
      len = covered_in front s;
      words = take s.len (drop s.place words);
    })

abbrev pub slots_from : ℕ → List ℤ → List (Option Span) → List (Option PlacedBlock)
slots_from front words spans = map (block_of_span front words) spans

-- the span is the word of the number, or lies in the region
abbrev pub IsAtHome : ℕ → ℕ → Span → Type 0
IsAtHome front n s = ((s.place ≡ n) × (s.len ≡ 1) × (n < front)) ⊎ (front ≤ s.place)

-- each span lies among the words that were in use so far, as the word of its number or in the region, and if it has
-- words there its number is at the first of them. There is room for the other words, and for a number at each word of
-- the region
pub record AreBlocks (front : ℕ) (words : List ℤ) (starts : List ℕ) (spans : List (Option Span))
    (size words_capacity starts_capacity : ℕ) : Type 0 where
  pub home : (n : ℕ) (s : Span) → value_at spans n ≡ Some s → IsAtHome front n s
  pub within : (n : ℕ) (s : Span) → value_at spans n ≡ Some s → s.place + s.len ≤ length words
  pub reached : (n : ℕ) (s : Span) → value_at spans n ≡ Some s → front ≤ s.place → 0 < s.len
      → s.place - front < length starts
  pub started : (n : ℕ) (s : Span) → value_at spans n ≡ Some s → front ≤ s.place → 0 < s.len
      → slice_index starts (s.place - front) ≡ n
  pub few : length words ≤ front + size
  pub words_room : front + size ≤ words_capacity
  pub starts_room : size ≤ starts_capacity
