-- What a slot shows of its job.
use Rattle.std.proofs.Common.{arith, ◌≡◌, ℕ, List, [], Option, Some, None, sym, subst, zero, suc, ◌+◌, ◌≤◌, Bool, cond}
use Rattle.std.proofs.Common.{eqb, ◌∷◌, length, refl, ap, ◌<◌, ◌++◌, get_or, take, ◌∙◌}
use Rattle.std.proofs.lemmas.Grind.{common_steps}
use Rattle.std.proofs.lemmas.List.Elements.{All-nil}
use Rattle.vcode_base.specs.declared.outcome.Outcome.{Outcome}
use Rattle.refcounts.specs.SharedState.{SharedState, IsLive, AreLive, IsTidy, words_in, blocks_in, Slot, slot_at}
use Rattle.refcounts.specs.Owners.{slots_seen_by}
use Rattle.job_steps.specs.Runs.{state_after, progress_from, outcome, executed_count, peak, whole_run}
use Rattle.job_steps.specs.States.{Vector, Task, State, StackEntry, Active, values_of, held_words}
use Rattle.job_steps.specs.Steps.{Running, Progress, Over, Stuck, ending_by, progress_by, progress_unless, progress_in}
use Rattle.job_steps.specs.Steps.{next_progress}
use Rattle.job_steps.specs.Tracks.{TrackState}
use Rattle.job_slots.specs.declared.status.Status.{Status}
use Rattle.job_slots.specs.declared.status.Status.TheVariants.{Waiting, Live, InFlight, Ended, Collected}
use Rattle.job_slots.specs.Laws.{IsPicture, ShownAreLive, ShownAreReached, IsShown}
use Rattle.job_slots.specs.Slots.{ShowsAs, Leaves, standing_by, IsReturned, SlotState, Shows, HasReturned}
use Rattle.job_slots.proofs.Cells.{are_there, held_is_stack, few_blocks, own_are_tidy, words_of_none, blocks_of_none}
use Rattle.job_slots.proofs.Cells.{none_held, IsThere, each_there}
use Rattle.std.specs.Prelude.{reverse, map, min}
use Rattle.std.proofs.lemmas.List.{length-reverse, length-map, get_or-map, get_or-take, length-append, map-append}
use Rattle.std.proofs.lemmas.List.{take_more, take_all}
use Rattle.vcode_base.specs.declared.fault.DataFault.{DataFault}
use Rattle.vcode_base.specs.declared.fault.MemoryFault.{MemoryFault}
use Rattle.vcode_base.specs.declared.outcome.Outcome.TheVariants.{Returned, Budget, Fault, Memory}
use Rattle.vcode_base.specs.declared.rule.Rule.{Rule}
use Rattle.vcode_reader.specs.declared.line.Numbered.{Numbered}
use Rattle.vcode_reader.specs.Trees.{Item}
use Rattle.signatures.specs.Signatures.{Signature}
use Rattle.job_steps.specs.Reached.{IsVerifiedTask, Reaches, EachEnds, ResultsHaveKinds}
use Rattle.std.proofs.lemmas.Bool.Decides.{nat_tests}
use Rattle.job_memory.specs.JobBlocks.{JobBlocks, own_slots}
use Rattle.job_steps.specs.EventLaws.{HasBegun, IsVerified}
use Rattle.job_steps.specs.Standings.{left_words}
use Rattle.job_slots.specs.Holdings.{Cell, HoldStack, HoldSomeStack, entries_of}
use Rattle.job_slots.specs.Copies.{AreCopies}
use Rattle.vcode_base.specs.declared.kind.Kind.{Kind}
use Rattle.vcode_base.specs.declared.kind.Kind.TheVariants.{Int}
use Rattle.job_slots.proofs.Stacks.{map-reverse, All-reverse}
use Rattle.std.proofs.lemmas.Slice.Zip.{zip_turn}
use Rattle.job_steps.specs.Standings as standing

-- ======== what a slot shows of a job that runs, in the words of its state

nothing_live : (memory : SharedState) (ids : List ℕ) → ids ≡ [] → AreLive memory ids
nothing_live memory ids none = subst (AreLive memory) (sym none) (All-nil (λ id. IsLive memory id))

live_left : (number : ℕ) (memory : SharedState) (task : Task) (t : TrackState ℕ) (o : Option (Outcome (List Vector))) →
    Leaves (slots_seen_by number memory) task t o → AreLive memory t.cells
live_left number memory task t None h = (are_there number memory t.cells h.stack h.holds).live
live_left number memory task t (Some ending) h = nothing_live memory t.cells (h.2.no_cell)

live_as : (number : ℕ) (memory : SharedState) (task : Task) (t : TrackState ℕ) (o : Option (Outcome (List Vector)))
    (s : Status) → ShowsAs (slots_seen_by number memory) task t o s → AreLive memory t.cells
live_as number memory task t o Waiting h = nothing_live memory t.cells h.nothing.no_cell
live_as number memory task t o Live h = (are_there number memory t.cells h.state.stack h.holds).live
live_as number memory task t o InFlight h = (are_there number memory t.cells h.run.state.stack h.run.holds).live
live_as number memory task t o Ended h = live_left number memory task t o h.leaves
live_as number memory task t o Collected h = nothing_live memory t.cells h.nothing.no_cell

pub shown_are_live : ShownAreLive
shown_are_live number blocks task slot h = live_as number blocks.memory task slot.trace slot.outcome slot.status h.shown

-- ---- a live job

pictured : (number : ℕ) (memory : SharedState) (task : Task) (t : TrackState ℕ) (o : Option (Outcome (List Vector)))
    (s : Status) (count : ℕ) → ShowsAs (slots_seen_by number memory) task t o s →
    standing_by s t.executed ≡ standing.Live count → (state : State) → state_after task count ≡ Running state →
    IsPicture memory task t state
pictured number memory task t o Live count h live state reached =
    let executed : t.executed ≡ count = cc in
    let same : h.state ≡ state = cc (h.running, executed, reached) in
    rw (← same) (record { at = h.at; words = (are_there number memory t.cells h.state.stack h.holds).lists })
pictured number memory task t o s count h live state reached = cc

pub shown_are_reached : ShownAreReached
shown_are_reached number blocks task slot h count live s reached = grind (arith, common_steps, pictured)

-- ======== the state in which a job returns

-- what is over with these values as results has them on its stack
abbrev Returns : State → Progress → Type 0
Returns s p = (values : List Vector) (x y : ℕ) → p ≡ Over (Returned values) x y → reverse (values_of s.stack) ≡ values

returns_by : (rule : Rule) (fault : Option DataFault) (line : Numbered Item) (s : State) (calls : List Active) →
    Returns s (progress_by rule fault line s calls)
returns_by rule fault line s calls values x y e = grind arith

returns_unless : (line : ℕ) (shape : Option DataFault) (refusal : Option MemoryFault) (s : State) (p : Progress) →
    Returns s p → Returns s (progress_unless (ending_by line shape refusal) s p)
returns_unless line shape refusal s p later values x y e = grind arith

returns_where : (b : Bool) (s : State) (p q : Progress) → Returns s p → Returns s q → Returns s (cond b p q)
returns_where b s p q first second = grind arith

stuck_returns : (s : State) → Returns s Stuck
stuck_returns s values x y e = absurd (cc)

returns_in : (task : Task) (s : State) (calls : List Active) → Returns s (progress_in task s calls)
returns_in task s [] = stuck_returns s
returns_in task s (call ∷ outer) =
    returns_where _ s _ _ (returns_unless _ _ _ s _ (returns_by _ _ _ s _)) (stuck_returns s)

returns_next : (task : Task) (s : State) → Returns s (next_progress task s)
unfolding next_progress
returns_next task s =
    returns_where (eqb s.executed task.limits.budget) s (Over Budget s.executed s.peak) (progress_in task s s.calls)
    (λ values x y e. absurd (let h : Over Budget s.executed s.peak ≡ Over (Returned values) x y = e in cc))
    (returns_in task s s.calls)

-- the state after n instructions has these values on its stack, from the bottom up
pub record HasStack (task : Task) (values : List Vector) : Type 0 where
  pub n : ℕ
  pub state : State
  pub running : state_after task n ≡ Running state
  pub values_are : reverse (values_of state.stack) ≡ values

last_from : (task : Task) (n : ℕ) (p : Progress) → state_after task n ≡ p →
    ((values : List Vector) (x y : ℕ) → state_after task n ≡ Over (Returned values) x y → HasStack task values) →
    (values : List Vector) (x y : ℕ) → progress_from task p ≡ Over (Returned values) x y → HasStack task values
last_from task n p is before values x y e = grind (arith, returns_next)

-- a job that has returned ran with its results as its stack
pub last_stack : (task : Task) (n : ℕ) (values : List Vector) (x y : ℕ) →
    state_after task n ≡ Over (Returned values) x y → HasStack task values
last_stack task zero values x y e = absurd (cc)
last_stack task (suc n) values x y e = last_from task n (state_after task n) refl (last_stack task n) values x y e

-- a verified job that is over
pub over_at : EachEnds → (signatures : List Signature) (task : Task) → IsVerifiedTask signatures task →
    state_after task (task.limits.budget + 1) ≡ Over (outcome task) (executed_count task) (peak task)
unfolding whole_run
over_at ends signatures task verified = (ends signatures task verified).over

-- the results of a verified job that returns are no more than it may have cells
pub few_results : Reaches → EachEnds → (signatures : List Signature) (task : Task) → IsVerifiedTask signatures task →
    (stack : List StackEntry) → outcome task ≡ Returned (reverse (values_of stack)) → length stack ≤ task.limits.cells
few_results reached ends signatures task verified stack is =
    let over = rw is at (over_at ends signatures task verified) in
    let last = last_stack task (task.limits.budget + 1) (reverse (values_of stack)) (executed_count task) (peak task)
    over in
    let within = (reached signatures task verified last.n last.state last.running).cells in
    omega (arith, simp (length-reverse, length-map) at (ap length last.values_are))

-- ======== a slot that shows its job's standing has the counts and the words that the job has alone

-- what holds a stack has its words, and no more blocks than it has entries
record Holds (number : ℕ) (blocks : JobBlocks) (stack : List StackEntry) : Type 0 where
  words : words_in (own_slots number blocks) ≡ held_words stack
  few : blocks_in (own_slots number blocks) ≤ length stack

-- a job that ends otherwise than by return leaves nothing
none_left : (task : Task) (ending : Outcome (List Vector)) → (IsReturned ending → ⊥) → left_words task ending ≡ 0
none_left task ending no_return = grind arith

module _ (reached : Reaches) (ends : EachEnds) (signatures : List Signature) (number : ℕ) (blocks : JobBlocks)
    (task : Task) (verified : IsVerifiedTask signatures task) (tidy : IsTidy blocks.memory) (t : TrackState ℕ) where
  holds_stack : (stack : List StackEntry) → HoldStack (own_slots number blocks) t.cells stack →
      Holds number blocks stack
  holds_stack stack h =
      let few = few_blocks (own_slots number blocks) h.cells h.held in
      let count = length-map h.cells (λ (c : Cell). c.entry) in
      grind (arith, nat_tests, held_is_stack, own_are_tidy)

  left : (o : Option (Outcome (List Vector))) → Leaves (own_slots number blocks) task t o →
      (words_in (own_slots number blocks) ≡ left_words task (outcome task))
      × (blocks_in (own_slots number blocks) ≤ task.limits.cells)
  left o h = grind (arith, nat_tests, holds_stack, few_results, words_of_none, none_left, blocks_of_none)

  pub alone : (o : Option (Outcome (List Vector))) (s : Status) → ShowsAs (own_slots number blocks) task t o s →
      IsShown number blocks task (record { status = s; trace = t; outcome = o })
  alone o Waiting shown = grind (arith, words_of_none, blocks_of_none)
  alone o Live shown =
      let is = reached signatures task verified t.executed shown.state shown.running in
      let holds = holds_stack shown.state.stack shown.holds in
      grind arith
  alone o InFlight shown =
      let is = reached signatures task verified t.executed shown.run.state shown.run.running in
      let holds = holds_stack shown.run.state.stack shown.run.holds in
      let begun : HasBegun task t.executed = record {
        run = record { state = shown.run.state; running = shown.run.running; budget = is.budget };
        goes_on = shown.goes_on;
      } in
      grind arith
  alone o Ended shown = grind (arith, nat_tests, left)
  alone o Collected shown = grind (arith, words_of_none, blocks_of_none)

-- ======== what the cells of a job that has ended hold

-- the cells of a job that has ended hold its results, or nothing
pub ended_holds : (number : ℕ) (blocks : JobBlocks) (task : Task) (slot : SlotState) → Shows number blocks task slot →
    slot.status ≡ Ended → HoldSomeStack (own_slots number blocks) slot.trace.cells
ended_holds number blocks task slot shows is = grind (arith, nat_tests, none_held)

-- ======== values that are copies of blocks

-- a value has the words of the block at its place
pub copied_at : (memory : SharedState) (ids : List ℕ) (values : List Vector) → AreCopies memory ids values →
    (k id : ℕ) (value : Vector) → k < length ids → k < length values → id ≡ get_or ids k id →
    value ≡ get_or values k value → value.words ≡ (slot_at memory id).words
copied_at memory ids values copies k id value there within id_is value_is =
    let words = (λ (v : Vector). v.words) in
    let block = (λ (i : ℕ). (slot_at memory i).words) in
    let n = length values in
    let count = simp length-map at (ap length copies) in
    rw (
      value_is,
      ← get_or-map words values k value [] within,
      copies,
      get_or-map block (take n ids) k id [] (omega (arith, within, count)),
      get_or-take n ids k id within,
      ← id_is,
    )

-- one value more
pub copied_more : (memory : SharedState) (ids : List ℕ) (old new : List Vector) (value : Vector) (id : ℕ) →
    AreCopies memory ids old → length old < length ids → new ≡ old ++ value ∷ [] → id ≡ get_or ids (length old) id →
    value.words ≡ (slot_at memory id).words → AreCopies memory ids new
copied_more memory ids old new value id copies there new_is id_is words_are =
    rw (new_is, map-append, length-append, take_more ids (length old) id there, map-append, copies, words_are, ← id_is)

-- ======== the results of a job that has returned, cell by cell

-- the results of a job that returns
abbrev pub values_in : Outcome (List Vector) → List Vector
values_in (Returned values) = values
values_in (Fault fault line) = []
values_in (Memory fault line) = []
values_in Budget = []

abbrev any_vector : Vector
any_vector = record { kind = Int; words = [] }

abbrev any_cell : Cell
any_cell = record { id = 0; entry = record { tag = 0; value = any_vector } }

-- ---- lists

values_of_cells : (cells : List Cell) → values_of (entries_of cells) ≡ map (λ (c : Cell). c.entry.value) cells
values_of_cells [] = refl
values_of_cells (x ∷ xs) = ap (λ (vs : List Vector). x.entry.value ∷ vs) (values_of_cells xs)

-- ---- one cell

-- the cells of a job that has returned, from the bottom up, and its results
record AreResults (task : Task) (ids : List ℕ) (cells : List Cell) : Type 0 where
  ids_are : reverse ids ≡ map (λ (c : Cell). c.id) (reverse cells)
  values_are : values_in (outcome task) ≡ map (λ (c : Cell). c.entry.value) (reverse cells)

are_results : (slots : List Slot) (task : Task) (t : TrackState ℕ) → (returned : HasReturned slots task t) →
    AreResults task t.cells returned.holds.cells
are_results slots task t returned = grind (arith, map-reverse, values_in, values_of_cells)

-- there are as many results as cells
pub length-results : (slots : List Slot) (task : Task) (t : TrackState ℕ) → HasReturned slots task t →
    length (values_in (outcome task)) ≡ length (reverse t.cells)
length-results slots task t returned = grind (arith, common_steps, are_results, length-map)

-- the block of a cell is there, and has the words of the result at its place
pub record IsResult (memory : SharedState) (values : List Vector) (k id : ℕ) (kind : Kind) : Type 0 where
  pub live : IsLive memory id
  pub within : k < length values
  pub value_is : (d : Vector) → get_or values k d ≡ record { kind = kind; words = (slot_at memory id).words }

-- ---- the loop over the cells and the kinds

-- the cells and the kinds that go with them
pub record ArePaired (task : Task) (t : TrackState ℕ) (ids : List ℕ) (kinds : List Kind) : Type 0 where
  pub ids_are : ids ≡ reverse t.cells
  pub kinds_are : kinds ≡ task.verified.results

module _ (have : ResultsHaveKinds) (ends : EachEnds) (job : ℕ) (blocks : JobBlocks) (task : Task) (t : TrackState ℕ)
    (verified : IsVerified task) (returned : HasReturned (own_slots job blocks) task t) (ids : List ℕ)
    (kinds : List Kind) (paired : ArePaired task t ids kinds) where
  abbrev values : List Vector
  values = values_in (outcome task)

  id_count : length ids ≡ length values
  id_count = rw paired.ids_are (sym (length-results _ _ t returned))

  -- the results are of the kinds that MAIN gives
  kinds_of_values : kinds ≡ map (λ (v : Vector). v.kind) values
  kinds_of_values = grind (arith, values_in, over_at)

  pub result_of_turn : (k id : ℕ) (kind : Kind) → k < length ids → ((d : ℕ) → id ≡ get_or ids k d) →
      ((d : Kind) → kind ≡ get_or kinds k d) → IsResult blocks.memory values k id kind
  result_of_turn k id kind lt id_is kind_is =
      let h = returned.holds in
      let cells : List Cell = reverse h.cells in
      let is = are_results (own_slots job blocks) task t returned in
      let same : ids ≡ map (λ (c : Cell). c.id) cells = paired.ids_are ∙ is.ids_are in
      let within : k < length cells = omega (arith, lt, ap length same, length-map cells (λ (c : Cell). c.id)) in
      let cell : Cell = get_or cells k any_cell in
      let id_at : id ≡ cell.id = id_is 0 ∙ rw (same, get_or-map (λ (c : Cell). c.id) cells k any_cell 0 within) in
      let value_at : (d : Vector) → get_or values k d ≡ cell.entry.value =
      λ d. rw (is.values_are, get_or-map (λ (c : Cell). c.entry.value) cells k any_cell d within) in
      let kind_at : kind ≡ cell.entry.value.kind = kind_is Int ∙ rw (
        kinds_of_values,
        get_or-map (λ (v : Vector). v.kind) values k any_vector Int (omega (arith, lt, id_count)),
        value_at any_vector,
      ) in
      let there : IsThere blocks.memory cell = All-reverse (IsThere blocks.memory) h.cells
      (each_there job blocks.memory h.cells h.held) k any_cell within in
      grind (arith, nat_tests, id_count)

  -- each value is a result, and so all of them are the results
  pub all_results : (n : ℕ) (items : List Vector) → n ≡ min (length ids) (length kinds) → items ≡ take n values →
      outcome task ≡ Returned items
  all_results n items n_is items_are = grind (arith, common_steps, length-map, kinds_of_values, take_all, id_count)

-- a cell and its value, in a turn of the loop over both
pub ruleset of_copies = (zip_turn, slot_at, copied_at)
