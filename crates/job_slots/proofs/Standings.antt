-- The standing in which a begin, a commit, or a step in one go leaves a job.
use Rattle.std.proofs.Common.{◌≡◌, ℕ, List, Some, ap, arith, rules, ◌≤◌, cond, Option, None, sym, ◌∙◌, ◌+◌, ◌<◌, Bool}
use Rattle.std.proofs.Common.{true, false, [], ◌∷◌, length, refl, slice_get, subst, suc, ◌-◌, ◌*◌, if◌then◌else◌}
use Rattle.std.proofs.lemmas.List.{length-set, get_or-set_same}
use Rattle.job_memory.specs.JobBlocks.{JobBlocks, own_slots, with_grant, ChangesOnlyOf, grant_of}
use Rattle.job_steps.specs.Runs.{state_after}
use Rattle.job_steps.specs.States.{Task, first_state, Active, State}
use Rattle.job_steps.specs.Tracks.{TrackState, functions_of}
use Rattle.job_slots.specs.declared.status.Status.TheVariants.{Waiting}
use Rattle.job_slots.specs.Courses.{Turns}
use Rattle.job_slots.specs.declared.course.Course.TheVariants.{Within, Across, Settled}
use Rattle.job_slots.specs.Laws.{RecalledIsShown}
use Rattle.job_slots.specs.Slots.{SlotState, Shows, IsRunningSlot, IsWaitingSlot, IsFlyingSlot, standing_of, IsAfter}
use Rattle.job_slots.specs.Slots.{GoesOn}
use Rattle.job_slots.specs.Slots.{grant_by, standing_by}
use Rattle.job_slots.proofs.Cells.{none_held}
use Rattle.std.specs.Prelude.{is_some}
use Rattle.job_steps.specs.Events.{next_standing, early_end, standing_after}
use Rattle.job_steps.specs.declared.frame.Frame.{Frame}
use Rattle.vcode_reader.specs.declared.line.CodeItem.{CodeItem}
use Rattle.vcode_reader.specs.declared.line.CodeItem.TheVariants as code_item
use Rattle.vcode_reader.specs.Trees.{CodeLine, Function, Item}
use Rattle.job_steps.specs.Frames.{AreActive, Functions, IsInnermost, IsSettled, IsStop, StandAll}
use Rattle.job_steps.specs.Frames.{StopAt, begin_passed, is_passed, is_passing, lines_ahead}
use Rattle.job_steps.specs.Standings.{Standing, Live, InFlight, Ended}
use Rattle.job_steps.specs.StepLaws.{StepsCanBegin}
use Rattle.job_steps.specs.Steps.{Ending, Running, Progress, Over, Stuck, next_item}
use Rattle.job_steps.specs.Tickets.{Asked}
use Rattle.job_slots.specs.Answers.{early_end_at, or_same, standing_after_step, CanStep, Fits, IsEnding, TakesStep}
use Rattle.job_slots.specs.Answers.{question_at, line_at, line_before, is_live, EndsByStep}
use Rattle.job_slots.specs.Answers.{HasRun, HasRunFor, StepsLead}
use Rattle.job_slots.proofs.NextSteps.{early_end_when, is_ending}
use Rattle.std.proofs.lemmas.Bool.Decides.{nat_tests}
use Rattle.vcode_base.specs.declared.fault.DataFault.{DataFault}
use Rattle.vcode_base.specs.declared.outcome.Outcome.TheVariants.{Fault}
use Rattle.vcode_base.specs.Meaning.{value_fault}
use Rattle.refcounts.specs.SharedState.{Slot, block_count, IsTidy}
use Rattle.job_steps.specs.EventLaws.{OthersAreReady, IsVerified, EarlyEndsEnd}
use Rattle.job_steps.specs.Questions.{Question}
use Rattle.job_steps.specs.Reached.{Reaches, EndIsOwn}
use Rattle.job_slots.proofs.Executed.{asked_is}
use Rattle.job_memory.specs.Laws.{ChangesJoin}
use Rattle.job_slots.specs.declared.status.Status.{Status}
use Rattle.job_slots.proofs.InPlace.{may_end}
use Rattle.refcounts.specs.SharedState as shared
use Rattle.job_slots.specs.declared.status.Status.TheVariants as status
use Rattle.job_steps.specs.declared.event.Event.TheVariants as event

-- ======== slots of jobs that wait, that are admitted, and whose step is given up

-- ---- a step that is given up

pub recalled_is_shown : RecalledIsShown
recalled_is_shown number blocks task slot h = grind arith

-- ---- an admission

-- a job that waits is at the begin of its run
runs_at_first : (slots : List shared.Slot) (task : Task) (t : TrackState ℕ) → IsWaitingSlot slots task t →
    IsRunningSlot slots task t
runs_at_first slots task t h = record {
  state = first_state task.verified;
  running = ap (state_after task) h.first.executed;
  at = grind arith;
  holds = none_held slots t.cells h.nothing;
  settled = h.first.settled;
}

-- the slot of a job that lives
abbrev pub live_slot : SlotState → SlotState
live_slot slot = record { status = status.Live; trace = slot.trace; outcome = slot.outcome }

waits : (number : ℕ) (blocks : JobBlocks) (task : Task) (slot : SlotState) → Shows number blocks task slot →
    slot.status ≡ Waiting → IsWaitingSlot (own_slots number blocks) task slot.trace
waits number blocks task slot shows is = grind arith

pub shows_admitted : (number : ℕ) (blocks : JobBlocks) (task : Task) (slot : SlotState) →
    Shows number blocks task slot → slot.status ≡ Waiting →
    Shows number (with_grant blocks number (Some task.limits.words)) task (live_slot slot)
shows_admitted number blocks task slot shows is = grind (arith, length-set, get_or-set_same, runs_at_first, waits)

-- ======== the standing in which a begin leaves a job

-- the slot with a step that has begun
abbrev pub flying : SlotState → SlotState
flying slot = record { status = status.InFlight; trace = slot.trace; outcome = slot.outcome }

-- a slot whose job is live runs
pub runs : (number : ℕ) (blocks : JobBlocks) (task : Task) (slot : SlotState) → Shows number blocks task slot →
    slot.status ≡ status.Live → IsRunningSlot (own_slots number blocks) task slot.trace
runs number blocks task slot shows live = rw live at shows.shown

-- the same of what a slot shows
pub runs_inside : (number : ℕ) (blocks : JobBlocks) (task : Task) (inside slot : SlotState) → inside ≡ slot →
    Shows number blocks task slot → slot.status ≡ status.Live →
    IsRunningSlot (own_slots number blocks) task inside.trace
runs_inside number blocks task inside slot same shows live = rw same (runs _ _ _ _ shows live)

abbrev pub after_begin : ℕ → Option Ending → Standing
after_begin n early = cond (is_some early) Ended (InFlight n)

-- the standing after a begin, by what ends the job before its next instruction
pub next_by : (number : ℕ) (task : Task) (n : ℕ) (s : State) (early : Option Ending) → state_after task n ≡ Running s →
    early_end_at task n ≡ early → next_standing (event.Begin number) task (Live n) ≡ Some (after_begin n early)
next_by number task n s early runs is = grind (arith, early_end_when)

pub next_of : (number : ℕ) (blocks : JobBlocks) (task : Task) (slot : SlotState) (early : Option Ending) →
    Shows number blocks task slot → slot.status ≡ status.Live → early_end_at task slot.trace.executed ≡ early →
    next_standing (event.Begin number) task (standing_of slot) ≡ Some (after_begin slot.trace.executed early)
next_of number blocks task slot early shows live is = search (rules, early_end_when)

-- ---- a begin and a finish after it

-- both are open
pub after_both : (number : ℕ) (task : Task) (standing begun after : Standing) →
    next_standing (event.Begin number) task standing ≡ Some begun →
    next_standing (event.Finish number) task begun ≡ Some after → standing_after_step number task standing ≡ after
after_both number task standing begun after first second = cc

-- ---- a step that begins

-- its step can begin
pub is_flying : (number : ℕ) (blocks : JobBlocks) (task : Task) (slot : SlotState) → Shows number blocks task slot →
    slot.status ≡ status.Live → early_end_at task slot.trace.executed ≡ None →
    IsFlyingSlot (own_slots number blocks) task slot.trace
is_flying number blocks task slot shows live goes_on =
    let run = runs _ _ _ _ shows live in
    record { run = run; goes_on = sym (early_end_when _ _ _ run.running) ∙ goes_on }

pub shows_flying : (number : ℕ) (blocks : JobBlocks) (task : Task) (slot : SlotState) → Shows number blocks task slot →
    slot.status ≡ status.Live → early_end_at task slot.trace.executed ≡ None → Shows number blocks task (flying slot)
shows_flying number blocks task slot shows live goes_on =
    grind (arith, is_flying number blocks task slot shows live goes_on)

-- ---- a job that goes on

pub shown_goes_on : (number : ℕ) (blocks : JobBlocks) (task : Task) (slot : SlotState) →
    Shows number blocks task slot → slot.status ≡ status.Live → GoesOn number blocks task slot
shown_goes_on number blocks task slot shows live = let run = runs _ _ _ _ shows live in grind arith

-- the track that its slot has inside can be settled
pub active_inside : StepsCanBegin ℕ → (number : ℕ) (blocks : JobBlocks) (task : Task) (inside slot : SlotState) →
    inside ≡ slot → GoesOn number blocks task slot → AreActive (functions_of task.verified) inside.trace.frames
active_inside law number blocks task inside slot same on =
    rw same (law on.verified.0 task on.verified.1 slot.trace.executed on.state slot.trace on.running on.at).active

-- and then it shows the job
pub settled_shows : (number : ℕ) (blocks : JobBlocks) (task : Task) (inside slot : SlotState) (frames : List Frame) →
    inside ≡ slot → GoesOn number blocks task slot → ((calls : List Active) →
    StandAll (functions_of task.verified) inside.trace.frames calls →
    StandAll (functions_of task.verified) frames calls) → IsSettled (functions_of task.verified) frames →
    Shows number blocks task (record inside { trace = record inside.trace { frames = frames } })
settled_shows number blocks task inside slot frames same on stand settled = grind arith

-- ---- where nothing is passed over

item_stops : (item : CodeItem Item) → is_passed item ≡ false → IsStop item
item_stops (code_item.Do i) clear = tt
item_stops code_item.If clear = tt
item_stops code_item.Else clear = absurd (let h : true ≡ false = clear in cc)
item_stops code_item.Endif clear = absurd (let h : true ≡ false = clear in cc)

lines_stop : (lines : List CodeLine) → begin_passed lines ≡ false → StopAt lines
lines_stop [] clear = tt
lines_stop (x ∷ lines) clear = item_stops x.item clear

frames_settled : (fs : Functions) (frames : List Frame) (f : Function) → IsInnermost fs frames f →
    is_passing f frames ≡ false → IsSettled fs frames
frames_settled fs [] f is clear = tt
frames_settled fs (x ∷ frames) f is clear =
    let found : slice_get fs x.function ≡ Some f = grind (arith, is.found, is.function_is) in
    rw found (lines_stop (lines_ahead f x) clear)

-- so the slot shows the job
pub clear_shows : (number : ℕ) (blocks : JobBlocks) (task : Task) (slot : SlotState) (f : Function) →
    GoesOn number blocks task slot → IsInnermost (functions_of task.verified) slot.trace.frames f →
    is_passing f slot.trace.frames ≡ false → Shows number blocks task slot
clear_shows number blocks task slot f on is clear =
    settled_shows number blocks task slot slot slot.trace.frames refl on (λ calls stand. stand)
    (frames_settled (functions_of task.verified) slot.trace.frames f is clear)

-- the other way round
stop_clear : (lines : List CodeLine) → StopAt lines → begin_passed lines ≡ false
stop_clear [] stop = refl
stop_clear (x ∷ lines) stop = stop_item x.item stop where
  stop_item : (item : CodeItem Item) → IsStop item → is_passed item ≡ false
  stop_item (code_item.Do i) stop = refl
  stop_item code_item.If stop = refl
  stop_item code_item.Else stop = absurd stop
  stop_item code_item.Endif stop = absurd stop

pub settled_clear : (fs : Functions) (frames : List Frame) (f : Function) → IsInnermost fs frames f →
    IsSettled fs frames → is_passing f frames ≡ false
settled_clear fs [] f is settled = refl
settled_clear fs (x ∷ frames) f is settled =
    let found : slice_get fs x.function ≡ Some f = grind (arith, is.found, is.function_is) in
    stop_clear (lines_ahead f x) (rw found at settled)

-- ======== the slot of a job after a step that was committed

-- ---- standings

-- the standing in which a finish leaves a job whose step is in flight
next_is : (number : ℕ) (task : Task) (standing : Standing) (step : ℕ) → standing ≡ InFlight step →
    next_standing (event.Finish number) task standing ≡ Some (standing_after (step + 1) (state_after task (step + 1)))
next_is number task standing step flying = ap (next_standing (event.Finish number) task) flying

-- the step is that of the slot's count
pub step_is : (slot : SlotState) (step : ℕ) → slot.status ≡ status.InFlight → standing_of slot ≡ InFlight step →
    slot.trace.executed ≡ step
step_is slot step is flying = grind arith

-- ---- a value fault

line_is : (task : Task) (n : ℕ) (s : State) (call : Active) (outer : List Active) (line : ℕ) →
    state_after task n ≡ Running s → s.calls ≡ call ∷ outer → line_at task n ≡ Some line →
    (next_item call).number ≡ line
unfolding line_at
line_is task n s call outer line running calls at = grind (arith, line_before)

-- the fault is the job's end
pub record FaultEnds (task : Task) (t : TrackState ℕ) (fault : DataFault) (line : ℕ) : Type 0 where
  pub ending : IsEnding task t.executed t.peak (Fault fault line)
  pub standing : standing_after (t.executed + 1) (state_after task (t.executed + 1)) ≡ Ended

pub fault_ends : OthersAreReady → EndIsOwn → (slots : List Slot) (task : Task) (t : TrackState ℕ) (question : Question)
    (fault : DataFault) (line : ℕ) → IsVerified task → (run : IsRunningSlot slots task t) →
    early_end task run.state ≡ None → question_at task t.executed ≡ Some question →
    value_fault question.op question.sources ≡ Some fault → line_at task t.executed ≡ Some line →
    FaultEnds task t fault line
fault_ends others_are_ready end_is_own slots task t question fault line verified run goes_on asked faulty at =
    let s = run.state in
    let ready = others_are_ready verified.0 task verified.1 t.executed s run.running goes_on in
    let same = asked_is task t.executed s ready.call ready.outer question run.running ready.calls asked in
    let line_same = line_is task t.executed s ready.call ready.outer line run.running ready.calls at in
    grind (arith, nat_tests)

-- ---- an instruction that was executed

pub record Executed (number : ℕ) (task : Task) (t u : TrackState ℕ) (old new : JobBlocks) : Type 0 where
  pub after : IsAfter (own_slots number new) task u (state_after task (t.executed + 1))
  pub limits : u.limits ≡ t.limits
  pub others : ChangesOnlyOf number old new
  pub same_grant : grant_of new number ≡ grant_of old number

-- the job, which is live, goes on, or it has returned
pub record GoesOnOrReturned (mid new : SlotState) (on : Bool) : Type 0 where
  pub still : on ≡ true → (0 < length mid.trace.frames) × (new ≡ mid)
  pub ended : on ≡ false → (mid.trace.frames ≡ []) × (new ≡ record mid { status = status.Ended; outcome = None })

module _ (reaches : Reaches) (end_is_own : EndIsOwn) (number : ℕ) (task : Task) (slot : SlotState)
    (old new : JobBlocks) (can : CanStep number task slot old) (goes_on : early_end_at task slot.trace.executed ≡ None)
    (mid : SlotState) (live : mid.status ≡ status.Live)
    (executed : Executed number task slot.trace mid.trace old new) where
  abbrev n : ℕ
  n = slot.trace.executed

  grant : grant_of new number ≡ Some task.limits.words
  grant = executed.same_grant ∙ can.shows.grant ∙ ap (grant_by task) can.live

  next : standing_after_step number task (Live n) ≡ standing_after (n + 1) (state_after task (n + 1))
  next =
      let run = runs number old task slot can.shows can.live in
      after_both number task (Live n) (InFlight n) (standing_after (n + 1) (state_after task (n + 1)))
      (next_by number task n run.state None run.running goes_on) refl

  -- whichever state the job is at then
  steps : (p : Progress) → state_after task (n + 1) ≡ p → IsAfter (own_slots number new) task mid.trace p → (on : Bool)
      (last : SlotState) → GoesOnOrReturned mid last on → TakesStep number task n old last new on
  steps (Running s) e after true last goes =
      let is = reaches _ task can.shows.verified.1 (n + 1) s e in
      let count : mid.trace.executed ≡ n + 1 = after.0.executed ∙ is.count in
      let done = goes.still refl in
      grind (arith, next, grant)
  steps (Running s) e after false last goes =
      let none = (goes.ended refl).0 in
      let is = reaches _ task can.shows.verified.1 (n + 1) s e in
      absurd (grind arith)
  steps (Over ending count most) e after true last goes = grind (arith, nat_tests)
  steps (Over ending count most) e after false last goes = grind (arith, nat_tests, next, grant)
  steps Stuck e after on last goes = absurd after

  pub took : (on : Bool) (last : SlotState) → GoesOnOrReturned mid last on → TakesStep number task n old last new on
  took on last goes = steps _ refl executed.after on last goes

-- ---- a commit

-- what a job whose step is in flight shows
flying_shown : (number : ℕ) (blocks : JobBlocks) (task : Task) (slot : SlotState) → Shows number blocks task slot →
    slot.status ≡ status.InFlight → IsFlyingSlot (own_slots number blocks) task slot.trace
flying_shown number blocks task slot shows flying = grind arith

-- ---- a value fault at a commit

-- the fault ends the job, and with it the finish
pub record FaultCommits (number : ℕ) (task : Task) (slot : SlotState) (fault : DataFault) (line : ℕ) : Type 0 where
  pub ending : IsEnding task slot.trace.executed slot.trace.peak (Fault fault line)
  pub next : next_standing (event.Finish number) task (standing_of slot) ≡ Some Ended

pub fault_commits : OthersAreReady → EndIsOwn → (number : ℕ) (blocks : JobBlocks) (task : Task) (slot : SlotState)
    (filled : Asked) (inside : TrackState ℕ) (fault : DataFault) (line : ℕ) → Shows number blocks task slot →
    slot.status ≡ status.InFlight → Fits task (standing_of slot) filled → inside ≡ slot.trace →
    value_fault filled.question.op filled.question.sources ≡ Some fault → line_at task inside.executed ≡ Some line →
    FaultCommits number task slot fault line
fault_commits others_are_ready end_is_own number blocks task slot filled inside fault line shows flying fits same faulty
    at =
    let shown = flying_shown number blocks task slot shows flying in
    let ends = fault_ends others_are_ready end_is_own (own_slots number blocks) task slot.trace filled.question fault
    line shows.verified shown.run shown.goes_on (rw (step_is slot filled.step flying fits.flying) fits.question) faulty
    (rw same at at) in
    grind (arith, next_is)

-- an instruction was executed on the track that the slot has inside
pub executed_inside : (number : ℕ) (task : Task) (slot : SlotState) (inside u : TrackState ℕ) (old new : JobBlocks) →
    inside ≡ slot.trace → IsAfter (own_slots number new) task u (state_after task (inside.executed + 1)) →
    u.limits ≡ inside.limits → ChangesOnlyOf number old new → grant_of new number ≡ grant_of old number →
    Executed number task slot.trace u old new
executed_inside number task slot inside u old new same after limits others same_grant = grind arith

-- a job whose step is in flight can take it as one that is live
module _ (number : ℕ) (task : Task) (slot : SlotState) (blocks : JobBlocks) (shows : Shows number blocks task slot)
    (flying : slot.status ≡ status.InFlight) where
  pub can_step : block_count blocks.memory + 2 ≤ length blocks.memory.slots →
      CanStep number task (live_slot slot) blocks
  can_step numbers = grind (arith, recalled_is_shown, flying_shown)

  pub goes_on_flying : early_end_at task slot.trace.executed ≡ None
  goes_on_flying = grind (arith, flying_shown, early_end_when)

  -- which is what a finish does
  pub finish_leads : (new : JobBlocks) (last : SlotState) (on : Bool) →
      TakesStep number task slot.trace.executed blocks last new on →
      Some (standing_of last) ≡ next_standing (event.Finish number) task (standing_of slot)
  finish_leads new last on took = grind (arith, flying_shown, after_both, next_by, goes_on_flying, next_is)

-- ======== the standing in which a step in one go leaves a job

-- ---- an end

pub ends_early : EarlyEndsEnd → (slots : List Slot) (number : ℕ) (task : Task) (t : TrackState ℕ)
    (run : IsRunningSlot slots task t) (ending : Ending) → IsVerified task →
    early_end_at task t.executed ≡ Some ending → EndsByStep number task t.executed t.peak ending
ends_early law slots number task t run ending verified early =
    let ended = next_by number task t.executed run.state (Some ending) run.running early in
    record { is = is_ending law slots task t run ending verified early; standing = cc }

pub ends_by_fault : OthersAreReady → EndIsOwn →
    (slots : List Slot) (number : ℕ) (task : Task) (t : TrackState ℕ) (run : IsRunningSlot slots task t)
    (question : Question) (fault : DataFault) (line : ℕ) → IsVerified task → early_end_at task t.executed ≡ None →
    question_at task t.executed ≡ Some question → value_fault question.op question.sources ≡ Some fault →
    line_at task t.executed ≡ Some line → EndsByStep number task t.executed t.peak (Fault fault line)
ends_by_fault ready own slots number task t run question fault line verified early asked faulty at =
    let goes_on = sym (early_end_when task t.executed run.state run.running) ∙ early in
    let ends = fault_ends ready own slots task t question fault line verified run goes_on asked faulty at in
    grind (arith, after_both, next_by)

-- the slot of a job that its next step ended
pub ended_by : (number : ℕ) (task : Task) (n most : ℕ) (ending : Ending) (old : JobBlocks) (slot : SlotState)
    (new : JobBlocks) → EndsByStep number task n most ending → slot.status ≡ status.Ended → Shows number new task slot →
    ChangesOnlyOf number old new → TakesStep number task n old slot new false
ended_by number task n most ending old slot new ends is shows others = grind arith

-- ---- where a step leads

module _ (number : ℕ) (task : Task) (n : ℕ) (on : Bool) where
  abbrev stands : Standing → Standing
  stands begun = or_same begun (next_standing (event.Finish number) task begun)

  -- to one instruction more, or to an end
  pub led : (old : JobBlocks) (slot : SlotState) (new : JobBlocks) → TakesStep number task n old slot new on →
      standing_after_step number task (Live n) ≡ cond on (Live (n + 1)) Ended
  led old slot new took = grind (arith, nat_tests)

-- ======== a job that is run until it is over

-- after this many steps from a slot and its blocks on the job goes on
pub record IsOnRun (number : ℕ) (task : Task) (first : SlotState) (before : JobBlocks) (steps : ℕ) (slot : SlotState)
    (blocks : JobBlocks) : Type 0 where
  pub on : GoesOn number blocks task slot
  pub others : ChangesOnlyOf number before blocks
  pub tidy : IsTidy blocks.memory
  pub from_first : (more : ℕ) (new : Standing) → StepsLead more number task (standing_of slot) new →
      StepsLead (steps + more) number task (standing_of first) new

-- before the first step
pub first_on : (number : ℕ) (task : Task) (slot : SlotState) (blocks : JobBlocks) → GoesOn number blocks task slot →
    ChangesOnlyOf number blocks blocks → IsTidy blocks.memory → IsOnRun number task slot blocks 0 slot blocks
first_on number task slot blocks on others tidy =
    record {
      on = on;
      others = others;
      tidy = tidy;
      from_first = λ more new lead. subst (λ k. StepsLead k number task (standing_of slot) new) (omega arith) lead;
    }

-- ---- a step

is_live_at : (slot : SlotState) (step : ℕ) → standing_of slot ≡ Live step →
    (slot.status ≡ status.Live) × (slot.trace.executed ≡ step)
is_live_at slot step e = grind arith

-- the step was executed
pub record HasStepped (number : ℕ) (task : Task) (first : SlotState) (before : JobBlocks) (steps : ℕ)
    (slot : SlotState) (new : SlotState) (blocks : JobBlocks) : Type 0 where
  pub on : IsOnRun number task first before (steps + 1) new blocks
  pub less : task.limits.budget - new.trace.executed < task.limits.budget - slot.trace.executed

module _ (number : ℕ) (task : Task) (first : SlotState) (before : JobBlocks) (steps : ℕ) (slot : SlotState)
    (old : JobBlocks) (new : SlotState) (blocks : JobBlocks)
    (on : IsOnRun number task first before steps slot old) where
  abbrev step : ℕ
  step = slot.trace.executed

  stands_after : (goes_on : Bool) → TakesStep number task step old new blocks goes_on →
      standing_of new ≡ standing_after_step number task (standing_of slot)
  stands_after goes_on took = grind (arith, step)

  was_live : is_live (standing_of slot) ≡ true
  was_live = ap (λ (s : Status). is_live (standing_by s step)) on.on.live

  pub on_next : ChangesJoin → Reaches → TakesStep number task step old new blocks true → IsTidy blocks.memory →
      HasStepped number task first before steps slot new blocks
  on_next join reaches took tidy =
      let at = is_live_at new (step + 1) (took.standing ∙ led number task step true old new blocks took) in
      let after = took.on refl in
      let is = reaches after.verified.0 task after.verified.1 new.trace.executed after.state after.running in
      record {
        on = record {
          on = after;
          others = (join number).both before old blocks on.others took.others;
          tidy = tidy;
          from_first = λ more last lead.
              subst (λ k. StepsLead k number task (standing_of first) last) (omega arith)
              (on.from_first (suc more) last (was_live, (rw (← stands_after true took) lead)));
        };
        less = omega (arith, at.1, is.budget);
      }

  has_led : TakesStep number task step old new blocks false →
      StepsLead (steps + 1) number task (standing_of first) (standing_of new)
  has_led took = on.from_first 1 (standing_of new) (was_live, stands_after false took)

  pub has_run : TakesStep number task step old new blocks false →
      HasRun number task (standing_of first) (standing_of new)
  has_run took = (steps + 1, has_led took)

  -- fewer than `count` steps end it
  pub has_run_for : (count : ℕ) → steps < count → TakesStep number task step old new blocks false →
      HasRunFor count number task (standing_of first) (standing_of new)
  has_run_for count within took = record {
    steps = steps + 1;
    lead = has_led took;
    within = omega (arith, within);
    all = λ live. absurd (let h : false ≡ true = took.answer ∙ live in cc);
  }

-- ---- a turn of the loop of a run

-- how far the run is from its end, with a turn more to settle its track
abbrev pub turns_left : Task → Function → SlotState → ℕ
turns_left task f slot =
    2 * (task.limits.budget - slot.trace.executed) + (if is_passing f slot.trace.frames then 1 else 0)

-- `steps` steps lead to a slot that goes on, whose innermost call is of function `g`, and fewer turns are left than at
-- the slot before, where it was of `f`.
pub record HasTurned (number : ℕ) (task : Task) (first : SlotState) (before : JobBlocks) (f g : Function)
    (slot : SlotState) (steps : ℕ) (new : SlotState) (blocks : JobBlocks) : Type 0 where
  pub on : IsOnRun number task first before steps new blocks
  pub less : turns_left task g new < turns_left task f slot
  pub inner : IsInnermost (functions_of task.verified) new.trace.frames g

few_passing : (b : Bool) → (if b then 1 else 0) ≤ 1
few_passing true = omega arith
few_passing false = omega arith

module _ (number : ℕ) (task : Task) (first : SlotState) (before : JobBlocks) (f g : Function) (steps : ℕ)
    (slot : SlotState) (old : JobBlocks) (new : SlotState) (blocks : JobBlocks)
    (on : IsOnRun number task first before steps slot old) where
  -- a step was executed
  pub turned_across : ChangesJoin → Reaches → IsTidy blocks.memory → Turns Across number task f slot old new blocks →
      IsInnermost (functions_of task.verified) new.trace.frames g →
      HasTurned number task first before f g slot (steps + 1) new blocks
  turned_across join reaches tidy took inner =
      let step = on_next number task first before steps slot old new blocks on join reaches took tidy in
      record {
        on = step.on;
        less = omega (arith, step.less, few_passing (is_passing g new.trace.frames));
        inner = inner;
      }

  -- and the innermost call is of the same function
  pub turned_within : ChangesJoin → Reaches → IsTidy blocks.memory → Turns Within number task f slot old new blocks →
      IsInnermost (functions_of task.verified) slot.trace.frames g →
      HasTurned number task first before f g slot (steps + 1) new blocks
  turned_within join reaches tidy took inner =
      turned_across join reaches tidy took.0
      (record { place = inner.place; function_is = took.1 ∙ inner.function_is; found = inner.found })

  same_standing : Turns Settled number task f slot old new blocks → standing_of new ≡ standing_of slot
  same_standing passed = grind (arith, passed.live, on.on.live, passed.same_count)

  -- the track was settled
  pub turned_settled : Turns Settled number task f slot old new blocks →
      IsInnermost (functions_of task.verified) new.trace.frames g →
      HasTurned number task first before f g slot steps new blocks
  turned_settled passed inner =
      let settled = (runs number blocks task new passed.shows passed.live).settled in
      let clear = settled_clear (functions_of task.verified) new.trace.frames g inner settled in
      record {
        on = record {
          on = shown_goes_on number blocks task new passed.shows passed.live;
          others = rw passed.same_blocks on.others;
          tidy = rw passed.same_blocks on.tidy;
          from_first = λ more last lead. on.from_first more last (rw (same_standing passed) at lead);
        };
        less = grind (arith, clear, passed.was, passed.same_count);
        inner = inner;
      }

-- `count` steps lead to a slot that goes on, whose track is settled then
pub has_run_on : {number : ℕ} {task : Task} {first : SlotState} {before : JobBlocks} {steps : ℕ} {slot : SlotState}
    {blocks : JobBlocks} → IsOnRun number task first before steps slot blocks → (count : ℕ) → steps ≡ count →
    (new : SlotState) → new.status ≡ status.Live → new.trace.executed ≡ slot.trace.executed →
    HasRunFor count number task (standing_of first) (standing_of new)
has_run_on {number = number} {task = task} {first = first} {steps = steps} {slot = slot} on count is new live same =
    let stands : standing_of new ≡ standing_of slot = grind (arith, on.on.live) in
    record {
      steps = count;
      lead = subst (λ k. StepsLead k number task (standing_of first) (standing_of new)) (omega (arith, is))
          (on.from_first 0 (standing_of new) stands);
      within = omega arith;
      all = λ live. refl;
    }

-- ======== what the calls of a slot cite

pub ruleset of_commits = (may_end, can_step, fault_commits, finish_leads, goes_on_flying, led, step_is)

pub ruleset of_begins = (may_end, next_of, runs)
