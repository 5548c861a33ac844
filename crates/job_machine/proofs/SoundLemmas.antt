-- A machine with one slot changed is sound, and has the standings after an event.
use Rattle.std.proofs.lemmas.Bool.Decides.{nat_tests}
use Rattle.std.proofs.Common.{◌≡◌, ℕ, zero, suc, ◌+◌, ◌-◌, ◌<◌, ◌≤◌, cond, List, [], ◌∷◌, length, set, get_or}
use Rattle.std.proofs.Common.{slice_get, Option, Some, None, refl, sym, ◌∙◌, ap, subst, arith, inl, inr, length-set}
use Rattle.std.proofs.Common.{sum_by, nat_lt, option_map}
use Rattle.std.proofs.lemmas.Bool.{cases_eq, ltb-true}
use Rattle.std.proofs.lemmas.List.Sums.{sum_by-cons}
use Rattle.std.proofs.lemmas.Option.{none-some, same_Some, cond_some, slice_get_within, slice_get-map}
use Rattle.refcounts.specs.SharedState.{Slot, blocks_in, words_in, block_count}
use Rattle.job_memory.specs.JobBlocks.{JobBlocks, ChangesOnlyOf, own_slots, held_words, words_of}
use Rattle.job_memory.specs.JobBlocks as jobs
use Rattle.job_steps.specs.Standings.{Standing, Queue, AreFew, sum_over, reserved_words, granted_words}
use Rattle.job_steps.specs.States.{Task}
use Rattle.job_slots.specs.declared.status.Status.{Status}
use Rattle.job_slots.specs.Laws.{OthersAreShown}
use Rattle.job_machine.specs.Machines.{place_of}
use Rattle.job_slots.specs.Slots.{SlotState, Shows, standing_of, standing_by, grant_by}
use Rattle.job_machine.specs.Sound.{IsSound, sum_to, standings_of}
use Rattle.job_machine.proofs.Places.{beside_at, get-set_same, get-set_other}

-- ---- places

-- the number of a place
pub record HasPlace (count job place : ℕ) : Type 0 where
  pub job_is : job ≡ suc place
  pub within : place < count

pub place_is : (count job place : ℕ) → place_of count job ≡ Some place → HasPlace count job place
place_is count job place e = grind (arith, none-some, cond_some, ltb-true)

-- ---- sums over jobs

sum_to_past : (n j : ℕ) (f g : ℕ → ℕ) → n < j → ((k : ℕ) → (k ≡ j → ⊥) → g k ≡ f k) → sum_to n g ≡ sum_to n f
sum_to_past zero j f g past same = refl
sum_to_past (suc n) j f g past same = grind (arith, nat_tests, sum_to_past n j f g (omega arith) same)

pub sum_to_changed : (n j : ℕ) (f g : ℕ → ℕ) → 1 ≤ j → j ≤ n → ((k : ℕ) → (k ≡ j → ⊥) → g k ≡ f k) →
    sum_to n g + f j ≡ sum_to n f + g j
sum_to_changed zero j f g least most same = absurd (omega arith)
sum_to_changed (suc n) j f g least most same = grind (arith, cases_eq, sum_to_past, (sum_to_changed n j f g least))

sum_to_shift : (n : ℕ) (f : ℕ → ℕ) → sum_to (suc n) f ≡ f 1 + sum_to n (λ k. f (suc k))
sum_to_shift zero f = omega arith
sum_to_shift (suc n) f = omega (arith, sum_to_shift n f)

-- what is so of each job, with its task and its slot
abbrev pub AtEach : List Task → List SlotState → (ℕ → Task → SlotState → Type 0) → Type 0
AtEach tasks slots P =
    (place : ℕ) (task : Task) (slot : SlotState) → slice_get tasks place ≡ Some task → slice_get slots place ≡ Some slot
    → P place task slot

-- a sum by the jobs' numbers is that by their standings
pub sum_is : (number : Task → Standing → ℕ) (tasks : List Task) (slots : List SlotState) (f : ℕ → ℕ) →
    length slots ≡ length tasks → AtEach tasks slots (λ place task slot. f (suc place) ≡ number task (standing_of slot))
    → sum_to (length tasks) f ≡ sum_over number tasks (standings_of slots)
sum_is number [] slots f same each = refl
sum_is number (t ∷ ts) [] f same each = absurd (omega (arith, same))
sum_is number (t ∷ ts) (s ∷ ss) f same each =
    let rest = sum_is number ts ss (λ k. f (suc k)) (omega (arith, same))
    (λ place task slot. each (suc place) task slot) in
    grind (arith, nat_tests, sum_to_shift)

-- a sum by the jobs' numbers is at most that of their cells
pub sum_within : (tasks : List Task) (slots : List SlotState) (f : ℕ → ℕ) → length slots ≡ length tasks →
    AtEach tasks slots (λ place task slot. f (suc place) ≤ task.limits.cells) →
    sum_to (length tasks) f ≤ sum_by (λ (task : Task). task.limits.cells) tasks
sum_within [] slots f same each = omega arith
sum_within (t ∷ ts) [] f same each = absurd (omega (arith, same))
sum_within (t ∷ ts) (s ∷ ss) f same each =
    let shift = sum_to_shift (length ts) f in
    let here = each 0 t s refl refl in
    let rest = sum_within ts ss (λ k. f (suc k)) (omega (arith, same)) (λ place task slot. each (suc place) task slot)
    in
    omega (arith, shift, here, rest, sum_by-cons (λ (task : Task). task.limits.cells) t ts)

granted_by : (task : Task) (s : Status) (n : ℕ) → words_of (grant_by task s) ≡ reserved_words task (standing_by s n)
granted_by task s n = grind arith

-- the grants are those of the standings
granted_each : (grants : List (Option ℕ)) (tasks : List Task) (slots : List SlotState) → length grants ≡ length tasks →
    length slots ≡ length tasks → AtEach tasks slots (λ place task slot. get_or grants place None ≡ grant_by task
    slot.status) → sum_by words_of grants ≡ granted_words tasks (standings_of slots)
granted_each [] [] slots jobs same each = refl
granted_each (g ∷ gs) (t ∷ ts) (s ∷ ss) jobs same each =
    let here : words_of g ≡ reserved_words t (standing_of s) =
    ap words_of (each 0 t s refl refl) ∙ granted_by t s.status s.trace.executed in
    let rest = granted_each gs ts ss (omega (arith, jobs)) (omega (arith, same))
    (λ place task slot. each (suc place) task slot) in
    omega (arith, here, rest, sum_by-cons words_of g gs)
granted_each grants tasks slots jobs same each = absurd (omega (arith, jobs, same))

pub granted_is : {passes : List ℕ} (blocks : JobBlocks) (tasks : List Task) (slots : List SlotState) →
    IsSound blocks tasks slots passes → jobs.granted_words blocks ≡ granted_words tasks (standings_of slots)
granted_is blocks tasks slots sound =
    granted_each blocks.grants tasks slots sound.jobs sound.slots_are
    (λ place task slot t s. let at : suc place - 1 ≡ place = omega arith in
    subst (λ (k : ℕ). get_or blocks.grants k None ≡ grant_by task slot.status) at
    (sound.each place task slot t s).grant)

-- ---- one slot changes

abbrev counts : Slot → ℕ
counts slot = cond (nat_lt 0 slot.count) 1 0

-- the blocks of all jobs are as many more as the job's own
pub counted_with : (job : ℕ) (old new : JobBlocks) → ChangesOnlyOf job old new →
    block_count new.memory + blocks_in (own_slots job old) ≡ block_count old.memory + blocks_in (own_slots job new)
counted_with job old new changes = grind arith

pub sound_with : {passes : List ℕ} → OthersAreShown → (old new : JobBlocks) (tasks : List Task) (slots : List SlotState)
    (place : ℕ) (task : Task) (slot : SlotState) → IsSound old tasks slots passes → slice_get tasks place ≡ Some task →
    ChangesOnlyOf (suc place) old new → Shows (suc place) new task slot →
    IsSound new tasks (set slots place slot) passes
sound_with others old new tasks slots place task slot sound at changes shows =
    let within : suc place ≤ length tasks = omega (arith, slice_get_within tasks place task at) in
    let apart : (k : ℕ) → (k ≡ suc place → ⊥) → own_slots k new ≡ own_slots k old =
    (λ k ne. changes.memory.others k ne) in
    let blocks = sum_to_changed (length tasks) (suc place) (λ job. blocks_in (own_slots job old))
    (λ job. blocks_in (own_slots job new)) (omega arith) within (λ k ne. ap blocks_in (apart k ne)) in
    let words = sum_to_changed (length tasks) (suc place) (λ job. held_words job old) (λ job. held_words job new)
    (omega arith) within (λ k ne. ap words_in (apart k ne)) in
    record {
      jobs = changes.jobs ∙ sound.jobs;
      slots_are = length-set slots place slot ∙ sound.slots_are;
      passes_are = sound.passes_are;
      few_passes = sound.few_passes;
      few = sound.few;
      least = omega (arith, sound.least, changes.memory.room);
      most = omega (arith, sound.most, changes.memory.room);
      fitting = rw changes.memory.room sound.fitting;
      each =
          (λ k other slot_k at_k slot_at. elim (cases_eq place k) [
            | inl e ↦
                let own = beside_at tasks slots sound.slots_are place task at in
                grind (arith, same_Some, get-set_same, own.1)
            | inr ne ↦
                others (suc k) (suc place) old new other slot_k changes (λ e. ne (omega (arith, e)))
                (sound.each k other slot_k at_k (sym (get-set_other slots place k slot (λ e. ne (sym e))) ∙ slot_at))
          ]);
      numbers = changes.memory.ids ∙ sound.numbers;
      counted = omega (arith, counted_with (suc place) old new changes, sound.counted, blocks);
      used = omega (arith, changes.memory.balance (λ (s : Slot). length s.words), sound.used, words);
    }

-- other passes
pub sound_passes : (blocks : JobBlocks) (tasks : List Task) (slots : List SlotState) (old new : List ℕ) →
    IsSound blocks tasks slots old → length new ≡ length old → AreFew new → IsSound blocks tasks slots new
sound_passes blocks tasks slots old new sound same now_few = grind arith

-- ---- the standings after an event

pub standing_at : (slots : List SlotState) (place : ℕ) (slot : SlotState) → slice_get slots place ≡ Some slot →
    slice_get (standings_of slots) place ≡ Some (standing_of slot)
standing_at slots place slot at = slice_get-map standing_of slots place ∙ ap (option_map standing_of) at

abbrev pub queue_by : List SlotState → List ℕ → Queue
queue_by slots passes = record { standings = standings_of slots; passes = passes }
