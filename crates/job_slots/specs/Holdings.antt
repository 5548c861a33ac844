-- When cells, which name blocks, hold the entries of a stack.
use Rattle.std.specs.Prelude.{◌≡◌, ◌↔◌, ℕ, List, [], map, All}
use Rattle.refcounts.specs.SharedState.{Slot, empty_slot, slot_in, occurrences}
use Rattle.job_steps.specs.States.{StackEntry}

-- a cell's block, and the cell's entry
pub record Cell : Type 0 where
  pub id : ℕ
  pub entry : StackEntry

abbrev pub ids_of : List Cell → List ℕ
ids_of cells = map (λ c. c.id) cells

abbrev pub entries_of : List Cell → List StackEntry
entries_of cells = map (λ c. c.entry) cells

-- two cells name one block exactly if their entries have one tag
abbrev pub AreAlike : Cell → Cell → Type 0
AreAlike x y = (x.id ≡ y.id) ↔ (x.entry.tag ≡ y.entry.tag)

-- Each cell's block has the words of its entry, each block is named by as many cells as its count says, and cells share
-- a block exactly if their entries have one tag.
pub record AreHeld (slots : List Slot) (cells : List Cell) : Type 0 where
  pub words : All (λ c. (slot_in slots c.id).words ≡ c.entry.value.words) cells
  pub counts : (id : ℕ) → (slot_in slots id).count ≡ occurrences id (ids_of cells)
  pub alike : All (λ x. All (AreAlike x) cells) cells

-- blocks of these numbers hold the entries of a stack, and there are no others
pub record HoldStack (slots : List Slot) (ids : List ℕ) (stack : List StackEntry) : Type 0 where
  pub cells : List Cell
  pub ids_are : ids ≡ ids_of cells
  pub entries_are : stack ≡ entries_of cells
  pub held : AreHeld slots cells

-- blocks of these numbers hold some stack, and there are no others
abbrev pub HoldSomeStack : List Slot → List ℕ → Type 0
HoldSomeStack slots ids = (stack : List StackEntry) × HoldStack slots ids stack

-- no cell, and no block
pub record HoldNothing (slots : List Slot) (ids : List ℕ) : Type 0 where
  pub no_cell : ids ≡ []
  pub no_block : (id : ℕ) → slot_in slots id ≡ empty_slot
