-- What a builder has, and what adding to it does.

use Rattle.std.specs.Prelude.{◌≡◌, ℕ, Bool, false, IsTrue, List, ◌++◌}

-- the bytes that were added, and whether memory was refused
pub record Built : Type 0 where
  pub bytes : List ℕ
  pub refused : Bool

-- The bytes are added, or memory is refused, now or before.
pub record Adds (old : Built) (new : Built) (more : List ℕ) : Type 0 where
  pub added : new.refused ≡ false → new.bytes ≡ old.bytes ++ more
  pub stays : IsTrue old.refused → IsTrue new.refused
