-- Entries one on another.
use Rattle.std.specs.Prelude.{ℕ, ◌≤◌, Bool, true, false, List, [], ◌∷◌}

-- the entries, the top first, and for how many there is room
pub record PileState (T : Type 0) : Type 0 where
  pub entries : List T
  pub room : ℕ

-- the innermost on its callers, if any is active
abbrev pub with_callers : {T : Type 0} → Bool → T → List T → List T
with_callers true innermost callers = innermost ∷ callers
with_callers false innermost callers = []

-- no more than there is room for, which no step takes memory for
pub record HasRoom (count room capacity : ℕ) : Type 0 where
  pub few : count ≤ room
  pub reserved : room ≤ capacity
