-- The operands of a step, copied one after another.
use Rattle.std.specs.Prelude.{◌≡◌, ℕ, ℤ, ◌≤◌, List, [], ◌∷◌, ◌++◌, length, take, sum, sum_by}
use Rattle.std.specs.List.{All}
use Rattle.vcode_base.specs.Segments.{pieces_of}
use Rattle.job_steps.specs.declared.operands.TheConstants.{MOST_OPERANDS}

-- the lists that were loaded, with room for `room` words each
pub record OperandLists : Type 0 where
  pub room : ℕ
  pub lists : List (List ℤ)

-- the first lists of these lengths that lie in the words one after another
abbrev pub lists_in : ℕ → List ℕ → List ℤ → List (List ℤ)
lists_in count lengths words = take count (pieces_of lengths words)

-- the words of the lists one after another
abbrev pub in_a_row : List (List ℤ) → List ℤ
in_a_row [] = []
in_a_row (list ∷ lists) = list ++ in_a_row lists

-- there is a length for each operand, as many are loaded at most, and together they are at most `words` words
pub record LengthsFit (words count : ℕ) (lengths : List ℕ) : Type 0 where
  pub for_each : length lengths ≡ MOST_OPERANDS
  pub some : count ≤ MOST_OPERANDS
  pub within : sum lengths ≤ words

abbrev pub length_of_all : List (List ℤ) → ℕ
length_of_all lists = sum_by length lists

-- none of them has more words than this
abbrev pub HaveAtMost : ℕ → List (List ℤ) → Type 0
HaveAtMost words lists = All (λ list. length list ≤ words) lists
