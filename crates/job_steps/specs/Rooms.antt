-- What a desk ends as whose words were lent.
use Rattle.std.specs.Prelude.{◌≡◌, ℕ, ℤ, List, ⊤}
use Rattle.std.specs.Borrow.{MutBor, Fml, RattleType, Array, i64, Lends, follows_so}
use Rattle.std.specs.declared.alloc.Allocator.{Ghosts}
use mathlib.Core.Option.{none}
use Rattle.job_steps.specs.contracts.desk.Desk.{the_row}

-- it has the words that it had
abbrev pub KeepsWords : (A : RattleType) → Ghosts A.Denot → MutBor ℕ → Fml
KeepsWords A alloc s =
    follows_so (the_row A alloc) (the_row A alloc) s.ghost_name none (λ _ _. ⊤) (λ words. words ≡ s.now)

-- once the words that it lent come back, it has as many as it had
abbrev pub LendsWords : (A : RattleType) → Ghosts A.Denot → MutBor ℕ → MutBor (List ℤ) → Fml
LendsWords A alloc s lent = Lends (the_row A alloc) (Array i64 0) s lent (λ _. s.now)
