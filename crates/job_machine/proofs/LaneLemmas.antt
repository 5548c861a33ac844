-- Jobs that run by themselves, from a region without a job to one.
use Rattle.std.proofs.Common.{◌≡◌, ℕ, zero, suc, ◌+◌, ◌-◌, ◌<◌, ◌≤◌, Bool, true, false, List, length, replicate, get_or}
use Rattle.std.proofs.Common.{map, set, All, Option, Some, None, refl, sym, ◌∙◌, ap, subst, arith, ◌↔◌, IfSome}
use Rattle.std.specs.Prelude.{IsTrue}
use Rattle.std.proofs.lemmas.Bool.{false≢true}
use Rattle.std.proofs.lemmas.List.{length-map, map-set}
use Rattle.std.proofs.lemmas.List.Elements.{All-map, All-weaker}
use Rattle.std.proofs.lemmas.List.Folds.{sum_by-replicate}
use Rattle.std.proofs.lemmas.Option.{slice_get-get_or, none-some, same_Some, slice_get_read, slice_get_within}
use Rattle.std.proofs.lemmas.Option.{get_or_from_slice_get}
use Rattle.vcode_base.specs.declared.rule.Rule.{Rule}
use Rattle.refcounts.specs.SharedState.{empty_slot, blocks_in, block_count}
use Rattle.job_memory.specs.JobBlocks.{JobBlocks, ChangesOnlyOf, own_slots}
use Rattle.job_memory.specs.Laws.{ChangesJoin}
use Rattle.job_steps.specs.declared.event.Event.TheVariants.{Finish, Collect}
use Rattle.job_steps.specs.Events.{next_standing}
use Rattle.job_steps.specs.Standings.{Standing, Waiting, Live, Ended, Collected, of_job, is_waiting}
use Rattle.job_steps.specs.States.{JobValue, Task, ruled}
use Rattle.job_slots.specs.declared.status.Status.{Status}
use Rattle.job_slots.specs.declared.status.Status.TheVariants as status
use Rattle.job_slots.specs.Answers.{StepsLead, HasRun, is_live, or_same}
use Rattle.job_slots.specs.Laws.{OthersAreShown, ShownIsAlone}
use Rattle.job_slots.specs.Slots.{SlotState, Shows, HasNumbersOnRun, standing_of, standing_by}
use Rattle.job_machine.specs.Lanes.{IsVacant, IsEndOf, CanAdopt, after_adoption}
use Rattle.job_machine.specs.Machines.{MachineState, place_of}
use Rattle.job_machine.specs.Sound.{IsSound}
use Rattle.job_machine.proofs.FirstSlots.{get_replicate, job_at, none_seen, no_blocks}
use Rattle.job_machine.proofs.SoundLemmas.{counted_with, place_is}
use Rattle.job_machine.proofs.TurnLemmas.{AreSound, HasTurn, Parts, shown, shown_machine, some_turn, task_read, turned}
use Rattle.job_machine.proofs.TurnLemmas.{turn_shows, turn_sound}

-- ---- a region without a job

pub first_vacant : (blocks : JobBlocks) (region most : ℕ) → blocks.memory ≡ record
    { room = region; slots = replicate most empty_slot } → blocks.grants ≡ replicate 1 None → IsVacant blocks
first_vacant blocks region most memory grants = grind (arith, no_blocks, none_seen, sum_by-replicate, get_replicate)

-- all blocks stay those of the one job
pub own_alone : (old new : JobBlocks) → block_count old.memory ≡ blocks_in (own_slots 1 old) → ChangesOnlyOf 1 old new →
    block_count new.memory ≡ blocks_in (own_slots 1 new)
own_alone old new counted changes = omega (arith, counted, counted_with 1 old new changes)

-- there are numbers wherever the job leads
pub lane_numbers : ShownIsAlone → (old between : JobBlocks) (task : Task) → IsVacant old → ChangesOnlyOf 1 old between →
    task.limits.cells + 2 ≤ length old.memory.slots → HasNumbersOnRun 1 task between
lane_numbers alone old between task vacant changes numbers new slot after shows tidy =
    let counted = own_alone between new (own_alone old between vacant.counted changes) after in
    omega (arith, counted, (alone 1 new task slot tidy shows).few, after.memory.ids, changes.memory.ids, numbers)

-- ---- jobs by their numbers

-- what is enough for the words of each job is enough for those of each task
pub tasks_fit : (rule : Rule) (jobs : List JobValue) (words n : ℕ) → All (λ job. job.limits.words ≤ words) jobs →
    words ≤ n → All (λ (task : Task). task.limits.words ≤ n) (map (ruled rule) jobs)
tasks_fit rule jobs words n all le =
    All-map (λ (task : Task). task.limits.words ≤ n) (ruled rule) jobs (All-weaker (λ job. job.limits.words ≤ words)
    (λ job. job.limits.words ≤ n) (λ job k. omega (arith, k, le)) jobs all)

-- it is enough for those of the job at a place
pub fits_at : (rule : Rule) (jobs : List JobValue) (place n : ℕ) (job : JobValue) → job ≡ get_or jobs place job →
    place < length jobs → All (λ (task : Task). task.limits.words ≤ n) (map (ruled rule) jobs) → job.limits.words ≤ n
fits_at rule jobs place n job is within all =
    subst (λ (task : Task). task.limits.words ≤ n) (sym (task_read rule jobs place job is))
    (all place (ruled rule job) (omega (arith, within, length-map jobs (ruled rule))))

-- the task of a number
pub task_of : (rule : Rule) (jobs : List JobValue) (number : ℕ) (job : JobValue) → 1 ≤ number → number - 1 < length jobs
    → job ≡ get_or jobs (number - 1) job → of_job number (map (ruled rule) jobs) ≡ Some (ruled rule job)
task_of rule jobs zero job least within is = absurd (omega (arith, least))
task_of rule jobs (suc place) job least within is =
    let at : suc place - 1 ≡ place = omega arith in
    slice_get_read (map (ruled rule) jobs) _ place _ refl (omega (arith, within, length-map jobs (ruled rule)))
    (task_read rule jobs place job (rw at at is))

-- a number that has a task is that of a job, and the task has the rule
pub record IsNumber (rule : Rule) (jobs : List JobValue) (number : ℕ) (task : Task) : Type 0 where
  pub least : 1 ≤ number
  pub within : number - 1 < length jobs
  pub rule_is : task.rule ≡ rule

pub is_number : (rule : Rule) (jobs : List JobValue) (number : ℕ) (task : Task) →
    of_job number (map (ruled rule) jobs) ≡ Some task → IsNumber rule jobs number task
is_number rule jobs number task e = grind (arith, none-some, job_at, slice_get_within, length-map)

-- a task of another rule isn't this one
pub of_other_rule : (o : Option Task) (task : Task) (own rule : Rule) (job : JobValue) (same : Bool) → o ≡ Some task →
    task.rule ≡ own → same ≡ false → (IsTrue same ↔ (own ≡ rule)) → (IsTrue false ↔ (o ≡ Some (ruled rule job)))
of_other_rule o task own rule job same is rule_is differs iff = grind (arith, same_Some)

-- by the same rule it is this one if the jobs are equal
pub of_same_rule : (o : Option Task) (own rule : Rule) (mine job : JobValue) (same : Bool) → o ≡ Some (ruled own mine) →
    own ≡ rule → (IsTrue same ↔ (mine ≡ job)) → (IsTrue same ↔ (o ≡ Some (ruled rule job)))
of_same_rule o own rule mine job same is rule_is iff = grind (arith, same_Some)

-- ---- to the job's end

-- the job goes on, or has ended
abbrev IsGoing : Standing → Type 0
IsGoing (Live n) = Unit {0}
IsGoing Ended = Unit {0}
IsGoing standing = ⊥

abbrev finished : ℕ → Task → Standing → Standing
finished job task begun = or_same begun (next_standing (Finish job) task begun)

going_run : (count job : ℕ) (task : Task) (old new : Standing) → StepsLead count job task old new → IsGoing old →
    IsGoing new
going_run zero job task old new lead h = subst IsGoing (sym lead) h
going_run (suc count) job task old new lead h = grind (arith, (going_run count))

-- a job that was live and isn't any more has ended
pub has_ended : (job : ℕ) (task : Task) (old new : Standing) → HasRun job task old new → old ≡ Live 0 →
    is_live new ≡ false → new ≡ Ended
has_ended job task old new run live over = grind (arith, false≢true, going_run, IsGoing)

-- and is collected then
pub collected_by : (job : ℕ) (task : Task) (old new : Standing) → old ≡ Ended →
    new ≡ or_same old (next_standing (Collect job) task old) → new ≡ Collected
collected_by job task old new ended stands = grind arith

-- ---- from a collected job

abbrev IsGone : Standing → Type 0
IsGone Collected = Unit {0}
IsGone standing = ⊥

-- its slot is that of its end
pub end_by : (number : ℕ) (blocks : JobBlocks) (task : Task) (slot : SlotState) → Shows number blocks task slot →
    standing_of slot ≡ Collected → IsEndOf task slot
end_by number blocks task slot shows e = grind (arith, IsGone)

-- no job is in the region
pub vacant_after : (old new : JobBlocks) (task : Task) (slot : SlotState) → IsVacant old → ChangesOnlyOf 1 old new →
    Shows 1 new task slot → standing_of slot ≡ Collected → IsVacant new
vacant_after old new task slot vacant changes shows e = grind (arith, IsGone, own_alone)

-- ---- to a machine

waits_by : (s : Status) (n : ℕ) → is_waiting (standing_by s n) ≡ true → s ≡ status.Waiting
waits_by s n e = grind (arith, false≢true)

pub waits_as : (slot : SlotState) → is_waiting (standing_of slot) ≡ true → standing_of slot ≡ Waiting
waits_as slot e = ap (λ (s : Status). standing_by s slot.trace.executed) (waits_by slot.status slot.trace.executed e)

-- in the place of a slot that waits, the slot of an end shows its job
pub adopted_shows : (number : ℕ) (blocks : JobBlocks) (task : Task) (old end : SlotState) →
    Shows number blocks task old → is_waiting (standing_of old) ≡ true → IsEndOf task end → Shows number blocks task end
adopted_shows number blocks task old end shows waits e = grind (arith, waits_by)

-- the machine shows the job collected
pub adopted_state : {p : Parts} {m : MachineState} {job place : ℕ} {task : Task} {before : SlotState} (end : SlotState)
    → HasTurn p m job place task before → IsEndOf task end → turned p p.blocks place end ≡ after_adoption true job m
adopted_state {p} {m} {job} {place} {task} {before} end h e = grind (arith, map-set, shown_machine)

module _ (p : Parts) {m : MachineState} (job place : ℕ) (sound : AreSound p) (view : shown p ≡ m)
    (at : place_of (length m.tasks) job ≡ Some place) where
  -- a place of a job is one of a slot
  pub slot_within : place < length p.slots
  slot_within = grind (arith, place_is)

  -- what a machine is after an adoption
  pub record Adopts (end : SlotState) : Type 0 where
    pub stays_sound : IsSound p.blocks p.tasks (set p.slots place end) p.passes
    pub state : turned p p.blocks place end ≡ after_adoption true job m

  pub adopts : OthersAreShown → ChangesJoin → (task : Option Task) (end : SlotState) →
      CanAdopt m (record { job = job; task = task }) → IfSome task (λ task. IsEndOf task end) → Adopts end
  adopts others join task end can is =
      let slot = get_or p.slots place end in
      let slot_is = sym (get_or_from_slice_get p.slots place _ slot (slice_get-get_or p.slots place end slot_within)) in
      let t = some_turn p job sound view refl place slot at slot_is in
      let waits : standing_of slot ≡ Waiting = same_Some _ Waiting (sym t.1.shown_standing ∙ can.waits) in
      let end_is : IsEndOf t.0 end = rw (sym can.same ∙ t.1.shown_task) at is in
      record {
        stays_sound = turn_sound t.1 others sound ((join job).none p.blocks) (adopted_shows job p.blocks t.0 slot end
            (turn_shows t.1 sound) (ap is_waiting waits) end_is);
        state = adopted_state end t.1 end_is;
      }
