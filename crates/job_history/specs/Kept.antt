-- What there is at a state, as it is kept.
use Rattle.std.specs.Prelude.{◌≡◌, ℕ, ℤ, ◌+◌, ◌<◌, ◌≤◌, true, List, length, Option, Some, slice_get, drop}
use Rattle.job_steps.specs.declared.frame.Frame.{Frame}
use Rattle.job_steps.specs.LeastLimits.{calls_in, cells_in}
use Rattle.job_steps.specs.Runs.{executed_count_in, peak_in, state_after}
use Rattle.job_steps.specs.Standings.{held_in}
use Rattle.job_steps.specs.States.{Task}
use Rattle.job_steps.specs.Steps.{Progress}
use Rattle.job_slots.specs.Answers.{told_demand_in, told_need_in}
use Rattle.job_profile.specs.Walks.{StandAt, goes_on, lists_in}
use Rattle.job_history.specs.declared.counts.Counts.{Counts}
use Rattle.job_history.specs.declared.counts.Needs.{Needs}
use Rattle.job_history.specs.declared.next.Next.{Next}
use Rattle.job_history.specs.Nexts.{callee_in, next_in}

-- the numbers of a state
pub record AreCounts (p : Progress) (counts : Counts) : Type 0 where
  pub executed : counts.executed ≡ executed_count_in p
  pub peak : counts.peak ≡ peak_in p
  pub held : counts.held ≡ held_in p
  pub depth : counts.depth ≡ cells_in p
  pub calls : counts.calls ≡ calls_in p

-- what its next instruction needs
pub record AreNeeds (task : Task) (p : Progress) (needs : Needs) : Type 0 where
  pub demand : needs.demand ≡ told_demand_in task.rule p
  pub need : needs.need ≡ told_need_in p

-- the vectors of the entries, the top first; the frames; the next instruction, and the name that it calls; the numbers
pub record KeptState : Type 0 where
  pub lists : List (List ℤ)
  pub frames : List Frame
  pub next : Option Next
  pub callee : Option (List ℕ)
  pub counts : Counts
  pub needs : Needs

-- what is kept is what there is
pub record Shows (task : Task) (p : Progress) (kept : KeptState) : Type 0 where
  pub on : goes_on p ≡ true
  pub lists : kept.lists ≡ lists_in p
  pub frames : StandAt task kept.frames p
  pub next : kept.next ≡ next_in p
  pub callee : kept.callee ≡ callee_in p
  pub counts : AreCounts p kept.counts
  pub needs : AreNeeds task p kept.needs

-- states that follow one another are kept, from the one of this number on
pub record AreKept (task : Task) (first : ℕ) (states : List KeptState) : Type 0 where
  pub each : (i : ℕ) (kept : KeptState) → slice_get states i ≡ Some kept →
      Shows task (state_after task (first + i)) kept

-- the last of them, if there is one, is the one before the state of this number
abbrev pub IsUpTo : ℕ → (first : ℕ) (states : List KeptState) → Type 0
IsUpTo end first states = 0 < length states → first + length states ≡ end

-- the first ones are no more kept
pub record IsBehind (first : ℕ) (states : List KeptState) (later : ℕ) (rest : List KeptState) : Type 0 where
  pub gone : ℕ
  pub some : gone ≤ length states
  pub first_is : later ≡ first + gone
  pub rest_is : rest ≡ drop gone states
