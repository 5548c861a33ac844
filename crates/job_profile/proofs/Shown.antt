-- What a run keeps, in the words of its job's progress.
use Rattle.std.proofs.Common.{◌≡◌, ℕ, ◌+◌, ◌<◌, Bool, true, false, List, [], ◌∷◌, length, map, None, Some}
use Rattle.std.proofs.Common.{slice_get, ◌∙◌, subst, arith}
use Rattle.std.proofs.lemmas.Grind.{elements}
use Rattle.std.proofs.lemmas.Option.{slice_get-map, slice_get_within}
use Rattle.std.specs.Prelude.{◌↔◌, All}
use Rattle.refcounts.specs.SharedState.{Slot, slot_at}
use Rattle.job_memory.specs.JobBlocks.{JobBlocks, own_slots}
use Rattle.job_steps.specs.EventLaws.{EarlyEndsEnd}
use Rattle.job_steps.specs.Frames.{StandAll, next_line}
use Rattle.job_steps.specs.LeastLimits.{calls_in, cells_in}
use Rattle.job_steps.specs.Runs.{executed_count_in, progress_from, state_after}
use Rattle.job_steps.specs.Standings.{held_in, held_by}
use Rattle.job_steps.specs.StepLaws.{CanBegin, StepsCanBegin}
use Rattle.job_steps.specs.States.{Task, Active, StackEntry}
use Rattle.job_steps.specs.Steps.{Progress, Running}
use Rattle.job_steps.specs.declared.frame.Frame.{Frame}
use Rattle.vcode_base.specs.declared.rule.Rule.{Rule}
use Rattle.vcode_reader.specs.Trees.{Function}
use Rattle.job_slots.specs.declared.status.Status.TheVariants.{Live}
use Rattle.job_slots.specs.Answers.{demand_in, early_end_at, told_demand_in, told_need_in}
use Rattle.job_slots.specs.Laws.{ShownAreReached}
use Rattle.job_slots.specs.Holdings.{Cell, AreAlike, HoldStack}
use Rattle.job_slots.specs.Slots.{SlotState, ShowsAs, IsRunningSlot, standing_of}
use Rattle.job_profile.specs.SoundRun.{IsSound, run_by}
use Rattle.job_profile.specs.Walks.{AreSame, RunState, goes_on, lists_in, next_line_in, progress_of, tags_in, tags_of}

same_lengths : (functions : List Function) (frames : List Frame) (calls : List Active) →
    StandAll functions frames calls → length frames ≡ length calls
same_lengths functions [] calls h = grind arith
same_lengths functions (f ∷ frames) calls h = grind (arith, same_lengths functions frames)

-- ---- lists

pub all_at : {X : Type 0} (P : X → Type 0) (xs : List X) (n : ℕ) (x : X) → All P xs → slice_get xs n ≡ Some x → P x
all_at P xs n x h e = grind (arith, elements)

-- an entry at a place of a mapped list is that of an element
got_map : {X Y : Type 0} (f : X → Y) (xs : List X) (n : ℕ) (y : Y) → slice_get (map f xs) n ≡ Some y →
    (x : X) × (slice_get xs n ≡ Some x) × (f x ≡ y)
got_map f xs n y e = grind (arith, slice_get-map)

-- entries at two depths have one tag exactly if one block has their words
same_blocks : {slots : List Slot} {ids : List ℕ} {stack : List StackEntry} → HoldStack slots ids stack →
    (m n x y : ℕ) → slice_get ids m ≡ Some x → slice_get ids n ≡ Some y →
    (x ≡ y) ↔ AreSame (slice_get (tags_of stack) m) (slice_get (tags_of stack) n)
same_blocks h m n x y at_m at_n =
    let one = got_map (λ (c : Cell). c.id) h.cells m x (rw h.ids_are at at_m) in
    let two = got_map (λ (c : Cell). c.id) h.cells n y (rw h.ids_are at at_n) in
    let each = all_at (λ (c : Cell). All (AreAlike c) h.cells) h.cells m one.0 h.held.alike one.1 in
    let both = all_at (AreAlike one.0) h.cells n two.0 each two.1 in
    grind (arith, slice_get-map, h.entries_are)

-- ---- in the words of a contract

-- a run goes on from a state that its slot shows
module _ {task : Task} {blocks : JobBlocks} {slot : SlotState} {desk : ℕ} (sound : IsSound task blocks slot desk)
    {r : RunState} (view : run_by task slot ≡ r) {b : Bool} (is : b ≡ goes_on (progress_of r)) (on : b ≡ true) where
  live : slot.status ≡ Live
  live = grind (arith, sound.admitted)

  pub run : IsRunningSlot (own_slots 1 blocks) task slot.trace
  run = subst (ShowsAs (own_slots 1 blocks) task slot.trace slot.outcome) live sound.shows.shown

  pub there : progress_of r ≡ state_after task slot.trace.executed
  there = rw (← view, live)

  pub progress : progress_of r ≡ Running run.state
  progress = there ∙ run.running

  pub held_at : held_by task (standing_of slot) ≡ held_in (progress_of r)
  held_at = grind (arith, sound.admitted)

  pub calls_at : length slot.trace.frames ≡ calls_in (progress_of r)
  calls_at = rw progress (same_lengths _ _ _ run.at.frames)

  -- the block that the cell at a depth names has the words of the entry there
  pub list_at : ShownAreReached → (depth : ℕ) {id : ℕ} → slice_get slot.trace.cells depth ≡ Some id →
      Some ((slot_at blocks.memory id).words) ≡ slice_get (lists_in (progress_of r)) depth
  list_at law depth at =
      let picture = law 1 blocks task slot sound.shows slot.trace.executed (rw live) run.state run.running in
      grind (arith, slice_get-map, progress)

  pub copies_at : (m n : ℕ) {x y : ℕ} → slice_get slot.trace.cells m ≡ Some x → slice_get slot.trace.cells n ≡ Some y →
      (x ≡ y) ↔ AreSame (slice_get (tags_in (progress_of r)) m) (slice_get (tags_in (progress_of r)) n)
  copies_at m n at_m at_n = rw progress (same_blocks run.holds m n _ _ at_m at_n)

  -- the cell of an entry is there
  pub cell_there : {depth id : ℕ} → slice_get slot.trace.cells depth ≡ Some id → depth < cells_in (progress_of r)
  cell_there {depth} {id} at = rw progress (omega (arith, slice_get_within slot.trace.cells depth id at, run.at.cells))

  -- a job that goes on can begin its next step
  pub begins_at : StepsCanBegin ℕ → CanBegin task slot.trace.executed run.state slot.trace
  begins_at law = law sound.shows.verified.0 task sound.shows.verified.1 _ _ _ run.running run.at

  pub line_at : {call : Active} {outer : List Active} → run.state.calls ≡ call ∷ outer →
      next_line_in (progress_of r) ≡ Some (next_line call)
  line_at calls = rw (progress, calls)

  -- an instruction is executed only if nothing ends the job before it
  goes_past : EarlyEndsEnd → executed_count_in (progress_from r.task (progress_of r))
      ≡ executed_count_in (progress_of r) + 1 → early_end_at task slot.trace.executed ≡ None
  unfolding early_end_at
  goes_past law more =
      let v = sound.shows.verified in
      let ends = law v.0 task v.1 slot.trace.executed run.state in
      grind (arith, run.running, run.at.executed, progress, more, view)

  -- what the next instruction holds and needs, if it is executed
  pub demand_at : EarlyEndsEnd → {words : ℕ} → (early_end_at task slot.trace.executed ≡ None →
      words ≡ demand_in task.rule (state_after task slot.trace.executed)) →
      executed_count_in (progress_from r.task (progress_of r)) ≡ executed_count_in (progress_of r) + 1 →
      words ≡ demand_in r.task.rule (progress_of r)
  demand_at law asked more = rw (there, ← view) (asked (goes_past law more))

  -- what is answered of it
  pub told_at : {words : ℕ} → words ≡ told_demand_in task.rule (state_after task slot.trace.executed) →
      words ≡ told_demand_in r.task.rule (progress_of r)
  told_at told = rw (there, ← view) told

-- ---- once the run is over

pub no_cells : (p : Progress) → goes_on p ≡ false → cells_in p ≡ 0
no_cells p over = grind arith

pub no_need : (p : Progress) → goes_on p ≡ false → told_need_in p ≡ 0
no_need p over = grind arith

pub no_demand : (rule : Rule) (p : Progress) → goes_on p ≡ false → told_demand_in rule p ≡ 0
no_demand rule p over = grind arith
