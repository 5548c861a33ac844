-- States that are kept.
use Rattle.std.proofs.Common.{add-one, ◌≡◌, ℕ, ℤ, zero, suc, ◌+◌, ◌<◌, ◌^◌, true, List, [], ◌∷◌, ◌++◌, drop, length}
use Rattle.std.proofs.Common.{Some, refl, ap, inl, inr, arith, slice_get, drop-drop, length-drop}
use Rattle.std.specs.Prelude.{◌⊎◌, None, Option, reverse}
use Rattle.job_steps.specs.Runs.{progress_from, state_after}
use Rattle.job_steps.specs.States.{Task}
use Rattle.job_profile.specs.Walks.{RunState, goes_on, lists_in, progress_of}
use Rattle.job_history.specs.declared.next.Next.{Next}
use Rattle.job_history.specs.Kept.{AreKept, IsBehind, IsUpTo, KeptState, Shows}
use Rattle.job_history.specs.Nexts.{Follows, next_in}
use Rattle.job_history.specs.Places.{AllGoOn}
use Rattle.job_history.specs.Sound.{HasGone, IsPassed, Mirrors}
use Rattle.job_history.proofs.Executed.{executed_by}

get_drop : {X : Type 0} (xs : List X) (k i : ℕ) → slice_get (drop k xs) i ≡ slice_get xs (k + i)
get_drop xs zero i = ap (slice_get xs) (omega arith)
get_drop [] (suc k) i = refl
get_drop (x ∷ xs) (suc k) i = grind (arith, get_drop xs k i)

-- one of the items, or the one after them, or none. The first part is true of itself, and gives `grind` the term to
-- match.
get_push : {X : Type 0} (xs : List X) (y : X) (i : ℕ) →
    (slice_get (xs ++ y ∷ []) i ≡ slice_get (xs ++ y ∷ []) i)
    × (((i < length xs) × (slice_get (xs ++ y ∷ []) i ≡ slice_get xs i))
    ⊎ (((i ≡ length xs) × (slice_get (xs ++ y ∷ []) i ≡ Some y)) ⊎ (slice_get (xs ++ y ∷ []) i ≡ None)))
get_push [] y zero = grind arith
get_push [] y (suc i) = grind arith
get_push (x ∷ xs) y zero = grind arith
get_push (x ∷ xs) y (suc i) = grind (arith, get_push xs y i)

-- the first ones are forgotten
pub kept_behind : {task : Task} {first later : ℕ} {states rest : List KeptState} → AreKept task first states →
    IsBehind first states later rest → AreKept task later rest
kept_behind h b = grind (arith, get_drop)

pub ruleset behinds = (length-drop, drop-drop)

-- one more is kept
pub kept_more : {task : Task} {number first with_it : ℕ} {states all : List KeptState} {kept : KeptState} →
    (0 < length states → with_it ≡ first) → with_it + length states ≡ number → all ≡ states ++ kept ∷ [] →
    AreKept task first states → Shows task (state_after task number) kept → AreKept task with_it all
kept_more same up_to is h shows = record { each = λ i x there. grind (arith, get_push, h.each i x) }

-- a run that goes on after its next instruction has executed it
pub follows : {old new : RunState} {from to : ℕ} {entries : List (List ℤ)} {next : Option Next} →
    Mirrors old from entries → AllGoOn old.task (from + 2) → HasGone 1 old from new to → to ≡ from + 1 →
    next ≡ next_in (progress_of old) → Follows next (reverse entries) (lists_in (progress_of new))
follows {old} {new} m on g is next_is =
    let facts : (progress_of new ≡ progress_from old.task (progress_of old))
    × ((goes_on (progress_of old) ≡ true) × (goes_on (progress_from old.task (progress_of old)) ≡ true)) =
    grind (arith, add-one) in
    rw (next_is, m.lists, facts.0) (executed_by old.task (progress_of old) facts.1.0 facts.1.1)

-- a run whose states are kept
pub record IsKeeping (task : Task) (n : ℕ) (run : RunState) (at : ℕ) (entries : List (List ℤ)) (first : ℕ)
    (states : List KeptState) : Type 0 where
  pub passed : IsPassed task n run at entries
  pub kept : AreKept task first states
  pub up_to : IsUpTo n first states
