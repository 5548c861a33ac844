-- Copies of blocks.
use Rattle.std.specs.Prelude.{◌≡◌, ℕ, List, length, map, take}
use Rattle.refcounts.specs.SharedState.{SharedState, slot_at}
use Rattle.job_steps.specs.States.{Vector}

-- these values have the words of as many blocks, the first of these
abbrev pub AreCopies : SharedState → List ℕ → List Vector → Type 0
AreCopies memory ids values =
    map (λ (v : Vector). v.words) values ≡ map (λ id. (slot_at memory id).words) (take (length values) ids)
