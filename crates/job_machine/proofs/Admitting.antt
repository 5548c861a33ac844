-- An admission among a machine's jobs.
use Rattle.std.proofs.lemmas.Bool.Decides.{nat_tests}
use Rattle.std.proofs.Common.{rules, ◌≡◌, ℕ, suc, ◌+◌, ◌-◌, ◌<◌, ◌≤◌, List, [], ◌∷◌, length, map, set, get_or, Some}
use Rattle.std.proofs.Common.{refl, sym, ◌∙◌, ap, arith, Result, OnOk, ◌↔◌}
use Rattle.std.specs.Arc.{arc_value}
use Rattle.std.specs.Prelude.{IsErr}
use Rattle.std.proofs.lemmas.Option.{none-some, same_Some, slice_get_within, slice_get_read}
use Rattle.vcode_base.specs.declared.rule.Rule.{Rule}
use Rattle.job_memory.specs.JobBlocks.{JobBlocks}
use Rattle.job_memory.specs.JobBlocks as jobs
use Rattle.job_steps.specs.declared.event.Event.TheVariants.{Admit}
use Rattle.job_steps.specs.EventLaws.{AdmittedHaveRoom, AdmissionsPassOnce, PassesAreFew, HasRoom}
use Rattle.job_steps.specs.Events.{after_event, next_standing}
use Rattle.job_steps.specs.Standings.{Waiting, Live, admission, passes_before}
use Rattle.job_steps.specs.States.{JobValue, Task, ruled}
use Rattle.job_slots.specs.declared.status.Status.{Status}
use Rattle.job_slots.specs.declared.status.Status.TheVariants as status
use Rattle.job_slots.specs.Answers.{or_same}
use Rattle.job_slots.specs.Slots.{SlotState, standing_of, standing_by}
use Rattle.job_machine.specs.declared.machine.Admission.{Admission}
use Rattle.job_machine.specs.declared.machine.Admission.TheVariants.{Admitted}
use Rattle.job_machine.specs.declared.machine.Machine.TheInside.{Inside}
use Rattle.job_machine.specs.Admissions.{next_by}
use Rattle.job_machine.specs.Machines.{MachineState, with_queue, machine_after, admission_in}
use Rattle.job_machine.specs.Sound.{IsSound, standings_of}
use Rattle.job_machine.proofs.Admissions.{before_length}
use Rattle.job_machine.proofs.RunningOut.{admitted, not_admitted, after_none}
use Rattle.job_machine.proofs.SoundLemmas.{queue_by, granted_is, sound_passes}
use Rattle.job_machine.proofs.TurnLemmas.{AreSound, HasTurn, Parts, parts, shown, shown_machine, turn_at, turn_to}

-- ---- the answer

next_is : (rule : Rule) (blocks : JobBlocks) (jobs : List JobValue) (slots : List SlotState) (passes : List ℕ) →
    IsSound blocks (map (ruled rule) jobs) slots passes → next_by rule blocks jobs slots passes ≡ admission_in
    (shown_machine rule blocks (map (ruled rule) jobs) slots passes)
unfolding admission
next_is rule blocks jobs slots passes sound = grind (arith, granted_is)

pub answer_is : {A : Type 0} (i : Inside A) {m : MachineState} → AreSound (parts i) → shown (parts i) ≡ m →
    (answer : Admission) → answer ≡ next_by i.rule i.blocks (arc_value i.jobs).items i.slots.items i.passes.items →
    answer ≡ admission_in m
answer_is i sound view answer is = grind (arith, next_is)

-- if nobody is admitted the machine is as it was
pub nobody_state : (m : MachineState) (answer : Admission) → answer ≡ admission_in m →
    ((job : ℕ) → answer ≡ Admitted job → ⊥) → m ≡ machine_after Admit m
nobody_state m answer is nobody = sym (ap (with_queue m) (after_none m (not_admitted m (λ job e. nobody job (is ∙ e)))))

-- ---- the job that is admitted

-- it is the next, and has room
pub record IsAdmitted (p : Parts) (job : ℕ) : Type 0 where
  pub next : admission p.blocks.memory.room p.tasks (queue_by p.slots p.passes) ≡ Some job
  pub room : HasRoom p.blocks.memory.room p.tasks (standings_of p.slots) job

pub is_admitted : AdmittedHaveRoom → {p : Parts} {m : MachineState} → shown p ≡ m → (job : ℕ) →
    admission_in m ≡ Admitted job → IsAdmitted p job
is_admitted law {p} view job e =
    let next = admitted (shown p) job (ap admission_in view ∙ e) in
    record { next = next; room = law p.blocks.memory.room p.tasks (queue_by p.slots p.passes) job next }

-- its place, counted from 0
pub record HasOwnPlace (count job : ℕ) : Type 0 where
  pub first : 1 ≤ job
  pub within : job ≤ count

pub admitted_place : {p : Parts} {job : ℕ} → IsAdmitted p job → HasOwnPlace (length p.tasks) job
admitted_place {p} {job} a = grind (arith, none-some, slice_get_within, a.room.task_is)

waits_by : (s : Status) (n : ℕ) → standing_by s n ≡ Waiting → s ≡ status.Waiting
waits_by s n e = grind arith

-- the job has the turn, waits, and has room
pub record HasNext (p : Parts) (m : MachineState) (job place : ℕ) (task : Task) (slot : SlotState) : Type 0 where
  pub turn : HasTurn p m job place task slot
  pub waits : slot.status ≡ status.Waiting
  pub room : jobs.granted_words p.blocks + task.limits.words ≤ p.blocks.memory.room
  pub next : admission p.blocks.memory.room p.tasks (queue_by p.slots p.passes) ≡ Some (suc place)

pub has_next : {p : Parts} {m : MachineState} {job : ℕ} (place : ℕ) (task : Task) (slot : SlotState) → AreSound p →
    shown p ≡ m → IsAdmitted p job → place ≡ job - 1 → task ≡ get_or p.tasks place task →
    slot ≡ get_or p.slots place slot → HasNext p m job place task slot
has_next {p} {m} {job} place task slot sound view a place_is task_is slot_is =
    let own = admitted_place a in
    let job_is : job ≡ suc place = omega (arith, own.first, place_is) in
    let within : place < length p.tasks = omega (arith, own.within, job_is) in
    let turn = turn_at p job place task slot view job_is (slice_get_read p.tasks _ place task refl within task_is)
    (slice_get_read p.slots _ place slot refl (omega (arith, within, sound.slots_are)) slot_is) in
    let first = turn_at p job place task slot refl job_is turn.task_at turn.slot_at in
    let same : a.room.task ≡ task = same_Some _ task (sym a.room.task_is ∙ first.shown_task) in
    let stands : standing_of slot ≡ Waiting = same_Some _ Waiting (sym first.shown_standing ∙ a.room.waits) in
    grind (arith, nat_tests, waits_by, granted_is)

-- ---- the machine after it

-- a result is good if the words fit
pub granted_ok : {T E : Type 0} {P : Type 0} {room n : ℕ} (r : Result T E) → (IsErr r ↔ (room < n)) → n ≤ room →
    OnOk r P → P
granted_ok {room} {n} r both fits p = search (rules)

module _ {p : Parts} {m : MachineState} {job place : ℕ} {task : Task} {before : SlotState}
    (h : HasNext p m job place task before) (once : AdmissionsPassOnce) (late : List ℕ)
    (late_is : late ≡ passes_before place (standings_of p.slots) p.passes) where
  passed_are : late ≡ (after_event p.blocks.memory.room p.tasks Admit (queue_by p.slots p.passes)).passes
  passed_are = late_is ∙ sym (once p.blocks.memory.room p.tasks (queue_by p.slots p.passes) place h.next)

  pub admitted_sound : PassesAreFew → AreSound p → {new : JobBlocks} {after : List SlotState} →
      IsSound new p.tasks after p.passes → IsSound new p.tasks after late
  admitted_sound few sound {new} {after} now =
      sound_passes new p.tasks after p.passes late now (ap length late_is ∙ before_length place _ p.passes)
      (rw passed_are (few _ _ (Admit ∷ []) (queue_by p.slots p.passes) sound.few_passes))

  pub admitted_state : (new : JobBlocks) (after : SlotState) →
      new.memory.room ≡ p.blocks.memory.room → standing_of after ≡ Live 0 →
      shown_machine p.rule new p.tasks (set p.slots place after) late ≡ machine_after Admit m
  admitted_state new after room live =
      let waiting : standing_of before ≡ Waiting = ap (λ s. standing_by s before.trace.executed) h.waits in
      turn_to h.turn new after room Admit late (h.next ∙ ap (λ k. Some k) (sym h.turn.job_is))
      (live ∙ sym (ap (λ s. or_same s (next_standing Admit task s)) waiting)) passed_are
