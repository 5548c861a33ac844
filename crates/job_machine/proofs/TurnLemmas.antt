-- What a turn of one job makes of what a machine shows.
use Rattle.std.proofs.Common.{rules, ◌≡◌, ℕ, zero, suc, ◌+◌, ◌<◌, ◌≤◌, List, [], ◌∷◌, length, map, set, get_or}
use Rattle.std.proofs.Common.{slice_get, All, Option, Some, None, refl, sym, ◌∙◌, ap, arith}
use Rattle.std.specs.Arc.{arc_value}
use Rattle.std.proofs.Math.ListN.{get_or-map}
use Rattle.std.proofs.lemmas.List.{length-map, map-set}
use Rattle.std.proofs.lemmas.Option.{none-some, same_Some, slice_get-get_or, slice_get_read, get_or_from_slice_get}
use Rattle.std.proofs.lemmas.Option.{slice_get_within, slice_get_past}
use Rattle.vcode_base.specs.declared.rule.Rule.{Rule}
use Rattle.refcounts.specs.SharedState.{block_count, blocks_in, IsTidy}
use Rattle.refcounts.specs.SharedState as shared
use Rattle.job_memory.specs.JobBlocks.{JobBlocks, ChangesOnlyOf, own_slots, held_words}
use Rattle.job_memory.specs.JobBlocks as jobs
use Rattle.job_steps.specs.declared.event.Event.{Event}
use Rattle.job_steps.specs.declared.event.Event.TheVariants.{Begin, Finish, Recall}
use Rattle.job_steps.specs.EventLaws.{StandsOnRun, IsVerified, AreKept}
use Rattle.job_steps.specs.Events.{job_of, named_job, after_event, next_standing}
use Rattle.job_steps.specs.Runs.{outcome}
use Rattle.job_steps.specs.Standings.{Standing, Ended, of_job, held_by, used_words}
use Rattle.job_steps.specs.States.{JobValue, Task, ruled}
use Rattle.job_slots.specs.declared.status.Status.{Status}
use Rattle.job_slots.specs.declared.answer.Begun.{Begun}
use Rattle.job_slots.specs.declared.answer.Finished.{Finished}
use Rattle.job_slots.specs.declared.answer.Stepped.{Stepped}
use Rattle.job_slots.specs.Answers.{HasRun, or_same, after_stepped, standing_after_begun}
use Rattle.job_slots.specs.Answers.{standing_after_finished, standing_after_step}
use Rattle.job_slots.specs.Laws.{OthersAreShown, RecalledIsShown, ShownIsAlone}
use Rattle.job_memory.specs.Laws.{ChangesJoin}
use Rattle.job_slots.specs.Slots.{HasNumbersOnRun, SlotState, Shows, standing_of, standing_by, recalled_status}
use Rattle.job_slots.specs.Slots.{IsReturned, recalled_slot}
use Rattle.job_machine.specs.declared.machine.Machine.TheInside.{Inside}
use Rattle.job_machine.specs.Machines.{MachineState, place_of, machine_after}
use Rattle.job_machine.specs.Machines.{HasReturnedIn, HasRunIn, after_begun, after_finished, after_step}
use Rattle.job_machine.specs.SlotOf.{IsMissing, IsSlotOf}
use Rattle.job_machine.specs.Sound.{IsSound, standings_of}
use Rattle.job_machine.proofs.Moves.{after_by, moved, moved_back, event_moves, step_moves, run_moves}
use Rattle.job_machine.proofs.RunningOut.{of_with}
use Rattle.job_machine.proofs.Places.{beside_at}
use Rattle.job_machine.proofs.SoundLemmas.{queue_by, place_is, standing_at, sound_with}
use Rattle.job_machine.proofs.SoundLemmas.{sum_is, sum_within, granted_is}
use Rattle.std.proofs.lemmas.Bool.{ltb-false}

abbrev pub shown_machine : Rule → JobBlocks → List Task → List SlotState → List ℕ → MachineState
shown_machine rule blocks tasks slots passes =
    record { rule = rule; region = blocks.memory.room; tasks = tasks; standings = standings_of slots; passes = passes }

-- what a machine holds
pub record Parts : Type 0 where
  pub rule : Rule
  pub blocks : JobBlocks
  pub tasks : List Task
  pub slots : List SlotState
  pub passes : List ℕ

abbrev pub parts : {A : Type 0} → Inside A → Parts
parts i = record {
  rule = i.rule;
  blocks = i.blocks;
  tasks = map (ruled i.rule) (arc_value i.jobs).items;
  slots = i.slots.items;
  passes = i.passes.items;
}

-- what it shows
abbrev pub shown : Parts → MachineState
shown p = shown_machine p.rule p.blocks p.tasks p.slots p.passes

abbrev pub AreSound : Parts → Type 0
AreSound p = IsSound p.blocks p.tasks p.slots p.passes

-- what it shows with other blocks, and another slot at a place
abbrev pub turned : Parts → JobBlocks → ℕ → SlotState → MachineState
turned p new place after = shown_machine p.rule new p.tasks (set p.slots place after) p.passes

-- the job of a number, at its place in the machine that shows m
pub record HasTurn (p : Parts) (m : MachineState) (job place : ℕ) (task : Task) (slot : SlotState) : Type 0 where
  pub view : shown p ≡ m
  pub job_is : job ≡ suc place
  pub task_at : slice_get p.tasks place ≡ Some task
  pub slot_at : slice_get p.slots place ≡ Some slot
  pub shown_task : of_job job m.tasks ≡ Some task
  pub shown_standing : of_job job m.standings ≡ Some (standing_of slot)

pub turn_at : (p : Parts) {m : MachineState} (job place : ℕ) (task : Task) (slot : SlotState) → shown p ≡ m → job ≡ suc
    place → slice_get p.tasks place ≡ Some task → slice_get p.slots place ≡ Some slot → HasTurn p m job place task slot
turn_at p job place task slot view job_is task_at slot_at = grind (arith, shown, standing_at)

-- the task of a job that is read among the jobs
pub task_read : (rule : Rule) (jobs : List JobValue) (place : ℕ) (job : JobValue) → job ≡ get_or jobs place job →
    ruled rule job ≡ get_or (map (ruled rule) jobs) place (ruled rule job)
task_read rule jobs place job is = ap (ruled rule) is ∙ sym (get_or-map (ruled rule) jobs place job)

-- ---- a number of a job, or of none

module _ (p : Parts) {m : MachineState} (job : ℕ) {o : Option ℕ} (sound : AreSound p) (view : shown p ≡ m)
    (o_is : o ≡ place_of (length m.tasks) job) where
  -- a place is within the jobs
  within_jobs : (place : ℕ) → o ≡ Some place → place < length p.tasks
  within_jobs place some = grind (arith, place_is)

  pub has_turn : (place : ℕ) (task : Task) (slot : SlotState) → o ≡ Some place → task ≡ get_or p.tasks place task →
      slot ≡ get_or p.slots place slot → HasTurn p m job place task slot
  has_turn place task slot some task_is slot_is = search (rules, place_is, standing_at, slice_get_read)

  -- the same if the task isn't read
  pub some_turn : (place : ℕ) (slot : SlotState) → o ≡ Some place → slot ≡ get_or p.slots place slot →
      (task : Task) × HasTurn p m job place task slot
  some_turn place slot some slot_is =
      let within : place < length p.slots = omega (arith, within_jobs place some, sound.slots_are) in
      let task = beside_at p.slots p.tasks (sym sound.slots_are) place slot
      (slice_get_read p.slots (length p.slots) place slot refl within slot_is) in
      (task.0, has_turn place task.0 slot some (sym (get_or_from_slice_get p.tasks place task.0 task.0 task.1)) slot_is)

  pub missing : o ≡ None → IsMissing job m
  missing none = grind (arith, ltb-false, none-some, slice_get_past, length-map)

  -- an event of a job that there isn't
  pub no_turn : (event : Event) → named_job event ≡ Some job → o ≡ None → m ≡ machine_after event m
  unfolding after_event
  no_turn event named none = let gone = missing none in grind arith

  pub passed_in : (place count d : ℕ) → o ≡ Some place → count ≡ get_or p.passes place d →
      Some count ≡ of_job job m.passes
  passed_in place count d some count_is = grind (arith, place_is, slice_get-get_or)

  pub passed_missing : o ≡ None → of_job job m.passes ≡ None
  passed_missing none = grind (arith, ltb-false, none-some, slice_get_past)

-- the job of a number is among the jobs and the slots
pub record IsLent {A : Type 0} (i : Inside A) (m : MachineState) (number place : ℕ) : Type 0 where
  pub among_jobs : place < length (arc_value i.jobs).items
  pub among_slots : place < length i.slots.items

pub is_lent : {A : Type 0} (i : Inside A) {m : MachineState} (number : ℕ) {place : ℕ} {o : Option ℕ} → AreSound (parts
    i) → shown (parts i) ≡ m → o ≡ place_of (length m.tasks) number → o ≡ Some place → IsLent i m number place
is_lent i number sound view o_is some = grind (arith, place_is, length-map)

-- ---- one slot, and the blocks of its job

module _ {p : Parts} {m : MachineState} {job place : ℕ} {task : Task} {before : SlotState}
    (h : HasTurn p m job place task before) where
  pub turn_shows : AreSound p → Shows job p.blocks task before
  turn_shows sound = rw h.job_is (sound.each place task before h.task_at h.slot_at)

  pub turn_sound : OthersAreShown → AreSound p → {new : JobBlocks} {after : SlotState} →
      ChangesOnlyOf job p.blocks new → Shows job new task after → IsSound new p.tasks (set p.slots place after) p.passes
  turn_sound others sound {new} {after} changes shows =
      sound_with others p.blocks new p.tasks p.slots place task after sound h.task_at (rw h.job_is at changes)
      (rw h.job_is at shows)

  -- the desk has the words of the job
  turn_fits : (words : ℕ) → All (λ task. task.limits.words ≤ words) p.tasks → task.limits.words ≤ words
  turn_fits words fits = grind (arith, get_or_from_slice_get, slice_get_within)

  -- ---- what the machine shows then

  module _ (new : JobBlocks) (after : SlotState) (room : new.memory.room ≡ p.blocks.memory.room) where
    -- the job stands as its slot does
    pub turn_moves : turned p new place after ≡ moved m job (standing_of after)
    turn_moves = grind (arith, map-set)

    -- what an event makes of it
    pub turn_state : (event : Event) → named_job event ≡ Some job → standing_of after ≡ or_same (standing_of before)
        (next_standing event task (standing_of before)) → turned p new place after ≡ machine_after event m
    turn_state event named stands =
        turn_moves
        ∙ (ap (moved m job) stands ∙ sym (event_moves event m job task _ named h.shown_task h.shown_standing))

    -- the same, with the passes that the event leaves
    pub turn_to : (event : Event) (late : List ℕ) → job_of p.blocks.memory.room p.tasks event
        (queue_by p.slots p.passes) ≡ Some job → standing_of after ≡ or_same (standing_of before) (next_standing event
        task (standing_of before)) → late ≡ (after_event p.blocks.memory.room p.tasks event (queue_by p.slots
        p.passes)).passes → shown_machine p.rule new p.tasks (set p.slots place after) late ≡ machine_after event m
    turn_to event late named stands late_is =
        let here = turn_at p job place task before refl h.job_is h.task_at h.slot_at in
        let now = after_by p.blocks.memory.room p.tasks event (queue_by p.slots p.passes) job task _ named
        here.shown_task here.shown_standing in
        grind (arith, map-set)

pub recalled_stands : (job : ℕ) (task : Task) (s : Status) (n : ℕ) →
    standing_by (recalled_status s) n ≡ or_same (standing_by s n) (next_standing (Recall job) task (standing_by s n))
recalled_stands job task s n = grind arith

-- ---- what a machine keeps

-- a standing that is shown is that of a slot
mapped_at : (slots : List SlotState) (place : ℕ) (standing : Standing) → slice_get (standings_of slots) place ≡ Some
    standing → (slot : SlotState) × (slice_get slots place ≡ Some slot) × (standing_of slot ≡ standing)
mapped_at [] place standing e = absurd (none-some standing e)
mapped_at (s ∷ slots) zero standing e = (s, refl, same_Some (standing_of s) standing e)
mapped_at (s ∷ slots) (suc place) standing e = mapped_at slots place standing e

module _ {passes : List ℕ} (alone : ShownIsAlone) (blocks : JobBlocks) (tasks : List Task) (slots : List SlotState)
    (sound : IsSound blocks tasks slots passes) where
  -- there are numbers for two blocks more
  pub numbers_left : IsTidy blocks.memory → block_count blocks.memory + 2 ≤ length blocks.memory.slots
  numbers_left tidy =
      let within = sum_within tasks slots (λ job. blocks_in (own_slots job blocks)) sound.slots_are
      (λ place task slot t s. (alone (suc place) blocks task slot tidy (sound.each place task slot t s)).few) in
      omega (arith, within, sound.counted, sound.numbers)

  pub used_is : IsTidy blocks.memory → shared.used_words blocks.memory ≡ used_words tasks (standings_of slots)
  used_is tidy =
      sound.used ∙ sum_is held_by tasks slots (λ job. held_words job blocks) sound.slots_are
      (λ place task slot t s. (alone (suc place) blocks task slot tidy (sound.each place task slot t s)).held)

  on_run : IsTidy blocks.memory → (job : ℕ) (task : Task) (standing : Standing) → of_job job tasks ≡ Some task →
      of_job job (standings_of slots) ≡ Some standing → StandsOnRun task standing
  on_run tidy zero task standing t s = absurd (none-some task t)
  on_run tidy (suc place) task standing t s =
      let slot = mapped_at slots place standing s in
      rw slot.2 at (alone (suc place) blocks task slot.0 tidy (sound.each place task slot.0 t slot.1)).stands

  pub are_kept : IsTidy blocks.memory → jobs.granted_words blocks ≤ blocks.memory.room →
      AreKept blocks.memory.room tasks (queue_by slots passes)
  are_kept tidy within = grind (arith, length-map, on_run, granted_is)

pub all_verified : {passes : List ℕ} (blocks : JobBlocks) (tasks : List Task) (slots : List SlotState) →
    IsSound blocks tasks slots passes → All IsVerified tasks
all_verified blocks tasks slots sound place d within =
    let task_at = slice_get-get_or tasks place d within in
    let slot = beside_at tasks slots sound.slots_are place _ task_at in
    (sound.each place _ slot.0 task_at slot.1).verified

-- what a slot shows
pub slot_in : ShownIsAlone → (p : Parts) {m : MachineState} (job place : ℕ) {o : Option ℕ} (slot : SlotState) →
    AreSound p → IsTidy p.blocks.memory → shown p ≡ m → o ≡ place_of (length m.tasks) job → o ≡ Some place →
    slot ≡ get_or p.slots place slot → IsSlotOf job m slot
slot_in alone p job place slot sound tidy view o_is some slot_is =
    let turn = some_turn p job sound view o_is place slot some slot_is in
    let shown = alone job p.blocks turn.0 slot tidy (turn_shows turn.1 sound) in
    record {
      task = turn.0;
      task_is = turn.1.shown_task;
      standing_is = turn.1.shown_standing;
      executed = shown.executed;
      peak_is = shown.peak_is;
      outcome_is = shown.outcome_is;
    }

-- ---- a job that was read, with its slot

module _ {A : Type 0} (i : Inside A) {m : MachineState} (number : ℕ) {place : ℕ} {o : Option ℕ} (job : JobValue)
    (slot : SlotState) (sound : AreSound (parts i)) (view : shown (parts i) ≡ m)
    (o_is : o ≡ place_of (length m.tasks) number) (some : o ≡ Some place)
    (job_is : job ≡ get_or (arc_value i.jobs).items place job) (slot_is : slot ≡ get_or i.slots.items place slot) where
  lent : HasTurn (parts i) m number place (ruled i.rule job) slot
  lent = has_turn (parts i) number sound view o_is place _ slot some (task_read i.rule _ place job job_is) slot_is

  pub lent_task : of_job number m.tasks ≡ Some (ruled i.rule job)
  lent_task = lent.shown_task

  pub lent_standing : of_job number m.standings ≡ Some (standing_of slot)
  lent_standing = lent.shown_standing

  pub lent_returned : (standing_of slot ≡ Ended) × IsReturned (outcome (ruled i.rule job)) → HasReturnedIn m number
  lent_returned is = record {
    task = ruled i.rule job;
    task_is = lent_task;
    ended = lent_standing ∙ ap (λ s. Some s) is.0;
    returned = is.1;
  }

  pub lent_shows : Shows number i.blocks (ruled i.rule job) slot
  lent_shows = turn_shows lent sound

  pub lent_fits : (words : ℕ) → All (λ task. task.limits.words ≤ words) m.tasks → job.limits.words ≤ words
  lent_fits words fits = turn_fits lent words (rw (← view) at fits)

  pub lent_numbers : ShownIsAlone → OthersAreShown → HasNumbersOnRun number (ruled i.rule job) i.blocks
  lent_numbers alone others =
      λ new slot changes shows tidy. numbers_left alone new _ (set i.slots.items place slot)
      (turn_sound lent others sound changes shows) tidy

  module _ (new : JobBlocks) (after : SlotState) (changes : ChangesOnlyOf number i.blocks new) where
    pub lent_sound : OthersAreShown → Shows number new (ruled i.rule job) after →
        IsSound new (map (ruled i.rule) (arc_value i.jobs).items) (set i.slots.items place after) i.passes.items
    lent_sound others shows = turn_sound lent others sound changes shows

    pub lent_moved : of_job number (turned (parts i) new place after).standings ≡ Some (standing_of after)
    lent_moved =
        ap (λ k. of_job number k.standings) (turn_moves lent new after changes.memory.room)
        ∙ of_with number m.standings _ _ lent_standing

    pub lent_still : standing_of after ≡ standing_of slot → turned (parts i) new place after ≡ m
    lent_still stands =
        let moves = turn_moves lent new after changes.memory.room in
        grind (arith, moved_back, lent_standing)

    pub lent_event : (event : Event) → named_job event ≡ Some number → standing_of after ≡ or_same (standing_of slot)
        (next_standing event (ruled i.rule job) (standing_of slot)) →
        turned (parts i) new place after ≡ machine_after event m
    lent_event event named stands = turn_state lent new after changes.memory.room event named stands

    pub lent_begun : (answer : Begun A) → standing_of after ≡ standing_after_begun answer (standing_of slot) (or_same
        (standing_of slot) (next_standing (Begin number) (ruled i.rule job) (standing_of slot))) →
        turned (parts i) new place after ≡ after_begun answer m (machine_after (Begin number) m)
    lent_begun answer stands = grind (arith, lent_event, lent_still)

    pub lent_finished : (answer : Finished) → standing_of after ≡ standing_after_finished answer (standing_of slot)
        (or_same (standing_of slot) (next_standing (Finish number) (ruled i.rule job) (standing_of slot))) →
        turned (parts i) new place after ≡ after_finished answer m (machine_after (Finish number) m)
    lent_finished answer stands = grind (arith, lent_event, lent_still)

    pub lent_stepped : (answer : Stepped) → standing_of after ≡ after_stepped answer (standing_of slot)
        (standing_after_step number (ruled i.rule job) (standing_of slot)) →
        turned (parts i) new place after ≡ after_stepped answer m (after_step number m)
    lent_stepped answer stands =
        let moves = turn_moves lent new after changes.memory.room in
        grind (arith, step_moves, moved_back, lent_task, lent_standing)

    pub lent_runs : HasRun number (ruled i.rule job) (standing_of slot) (standing_of after) →
        HasRunIn number m (turned (parts i) new place after)
    lent_runs ran = (
      ran.0,
      rw (turn_moves lent new after changes.memory.room) (run_moves ran.0 number m _ _ _ lent_task lent_standing ran.1),
    )

-- the same if the task isn't read
module _ {A : Type 0} (i : Inside A) {m : MachineState} (number : ℕ) {place : ℕ} {o : Option ℕ} (slot : SlotState)
    (sound : AreSound (parts i)) (view : shown (parts i) ≡ m) (o_is : o ≡ place_of (length m.tasks) number)
    (some : o ≡ Some place) (slot_is : slot ≡ get_or i.slots.items place slot) where
  own : (task : Task) × HasTurn (parts i) m number place task slot
  own = some_turn (parts i) number sound view o_is place slot some slot_is

  pub own_standing : of_job number m.standings ≡ Some (standing_of slot)
  own_standing = own.1.shown_standing

  module _ (after : SlotState) (after_is : after ≡ recalled_slot slot) where
    pub recalled_sound : OthersAreShown → ChangesJoin → RecalledIsShown →
        IsSound i.blocks (map (ruled i.rule) (arc_value i.jobs).items) (set i.slots.items place after) i.passes.items
    recalled_sound others join recalled = rw after_is (turn_sound own.1 others sound ((join number).none i.blocks)
        (recalled number i.blocks own.0 slot (turn_shows own.1 sound)))

    pub recalled_state : turned (parts i) i.blocks place after ≡ machine_after (Recall number) m
    recalled_state = turn_state own.1 i.blocks after refl (Recall number) refl
        (ap standing_of after_is ∙ recalled_stands number own.0 slot.status slot.trace.executed)
