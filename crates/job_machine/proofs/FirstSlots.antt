-- A machine whose jobs all wait is sound.
use Rattle.std.proofs.Common.{◌≡◌, ℕ, zero, suc, ◌+◌, ◌-◌, ◌≤◌, cond, List, [], ◌∷◌, length, map, ◌++◌, replicate}
use Rattle.std.proofs.Common.{get_or, slice_get, All, Option, Some, None, refl, sym, ◌∙◌, ap, subst, arith, sum_by}
use Rattle.std.proofs.Common.{nat_lt}
use Rattle.std.proofs.lemmas.List.Folds.{fold-map, sum_by-replicate}
use Rattle.std.proofs.lemmas.Option.{none-some, same_Some, slice_get_within}
use Rattle.std.proofs.lemmas.List.{length-map, length-replicate}
use Rattle.std.proofs.lemmas.List.Elements.{All-nil, All-cons, All-map}
use Rattle.vcode_base.specs.declared.limits.TheConstants.{MOST_JOBS, MOST_PASSES, MOST_WORDS}
use Rattle.vcode_base.specs.declared.rule.Rule.{Rule}
use Rattle.refcounts.specs.SharedState.{SharedState, Slot, empty_slot, words_in, blocks_in, block_count, used_words}
use Rattle.refcounts.specs.Owners.{slot_seen_by}
use Rattle.job_memory.specs.JobBlocks.{JobBlocks, own_slots}
use Rattle.job_steps.specs.Standings.{AreFew, Waiting, first_standings}
use Rattle.job_steps.specs.States.{JobValue, Task, ruled}
use Rattle.job_slots.specs.declared.status.Status.{Status}
use Rattle.job_slots.specs.Laws.{NewIsShown}
use Rattle.job_slots.specs.Slots.{SlotState, IsNewSlot, Shows, standing_of, standing_by}
use Rattle.job_machine.specs.Sound.{IsSound, sum_to, standings_of}

pub get_replicate : {X : Type 0} (n k : ℕ) (x : X) → get_or (replicate n x) k x ≡ x
get_replicate zero k x = refl
get_replicate (suc n) zero x = refl
get_replicate (suc n) (suc k) x = get_replicate n k x

pub none_seen : (job n : ℕ) → map (slot_seen_by job) (replicate n empty_slot) ≡ replicate n empty_slot
none_seen job zero = refl
none_seen job (suc n) = grind (arith, (none_seen job n))

no_words : (n : ℕ) → words_in (replicate n empty_slot) ≡ 0
no_words n = sum_by-replicate (λ (slot : Slot). length slot.words) n empty_slot ∙ omega arith

pub no_blocks : (n : ℕ) → blocks_in (replicate n empty_slot) ≡ 0
no_blocks n = sum_by-replicate (λ (slot : Slot). cond (nat_lt 0 slot.count) 1 0) n empty_slot ∙ omega arith

sum_to_none : (n : ℕ) (f : ℕ → ℕ) → ((k : ℕ) → f k ≡ 0) → sum_to n f ≡ 0
sum_to_none zero f none = refl
sum_to_none (suc n) f none = omega (arith, sum_to_none n f none, none (suc n))

-- each slot is new, and that of the job at its place
abbrev pub AreNewSlots : List JobValue → List SlotState → Type 0
AreNewSlots jobs slots =
    (place : ℕ) (job : JobValue) (slot : SlotState) → slice_get jobs place ≡ Some job → slice_get slots place ≡ Some
    slot → IsNewSlot job slot

-- the job of a task at a place
pub job_at : (rule : Rule) (jobs : List JobValue) (place : ℕ) (task : Task) → slice_get (map (ruled rule) jobs) place ≡
    Some task → (job : JobValue) × (slice_get jobs place ≡ Some job) × (ruled rule job ≡ task)
job_at rule [] place task e = absurd (none-some task e)
job_at rule (j ∷ jobs) zero task e = (j, refl, same_Some (ruled rule j) task e)
job_at rule (j ∷ jobs) (suc place) task e = job_at rule jobs place task e

none_passed : (n : ℕ) → AreFew (replicate n 0)
none_passed zero = All-nil (λ (k : ℕ). k ≤ MOST_PASSES)
none_passed (suc n) = All-cons (λ (k : ℕ). k ≤ MOST_PASSES) 0 (replicate n 0) (omega arith) (none_passed n)

-- before the first event none was passed by
pub no_passes : (rule : Rule) (jobs : List JobValue) → replicate {A = ℕ} (length jobs) 0 ≡ map (λ (task : Task). 0)
    (map (ruled rule) jobs)
no_passes rule [] = refl
no_passes rule (j ∷ jobs) = ap (λ (ks : List ℕ). 0 ∷ ks) (no_passes rule jobs)

-- the cells of all jobs
sum_cells : (rule : Rule) (jobs : List JobValue) → sum_by (λ (job : JobValue). job.limits.cells) jobs ≡ sum_by
    (λ (task : Task). task.limits.cells) (map (ruled rule) jobs)
sum_cells rule jobs = sym (fold-map (λ (cells : ℕ) (task : Task). cells + task.limits.cells) (ruled rule) 0 jobs)

pub first_is_sound : NewIsShown → (rule : Rule) (blocks : JobBlocks) (region most count : ℕ) (jobs : List JobValue)
    (slots : List SlotState) → blocks.memory ≡ record { room = region; slots = replicate most empty_slot } →
    blocks.grants ≡ replicate count None → count ≡ length jobs → most ≡ sum_by (λ (job : JobValue). job.limits.cells)
    jobs + 2 → length slots ≡ length jobs → length jobs ≤ MOST_JOBS → 1 ≤ region → region ≤ MOST_WORDS →
    All (λ (job : JobValue). job.limits.words ≤ region) jobs → AreNewSlots jobs slots →
    IsSound blocks (map (ruled rule) jobs) slots (replicate count 0)
first_is_sound shown rule blocks region most count jobs slots memory grants count_is most_is same few least greatest
    fitting new =
    let long = length-map jobs (ruled rule) in
    let none : (job : ℕ) → own_slots job blocks ≡ replicate most empty_slot =
    λ job. ap (λ (m : SharedState). map (slot_seen_by job) m.slots) memory ∙ none_seen job most in
    let room = ap (λ (m : SharedState). m.room) memory in
    record {
      jobs = grind (arith, length-replicate);
      slots_are = same ∙ sym long;
      passes_are = grind (arith, length-replicate);
      few_passes = none_passed count;
      few = omega (arith, few, long);
      least = omega (arith, least, room);
      most = omega (arith, greatest, room);
      fitting = rw room (All-map (λ (task : Task). task.limits.words ≤ region) (ruled rule) jobs fitting);
      each =
          (λ place task slot t s.
          let job = job_at rule jobs place task t in
          let at = slice_get_within jobs place job.0 job.1 in
          let count_none = ap length grants ∙ length-replicate {A = Option ℕ} count None in
          subst (λ k. Shows (suc place) blocks k slot) job.2 (shown rule (suc place) blocks job.0 slot
          (new place job.0 slot job.1 s) (omega arith, omega (arith, at, count_none, count_is))
          (ap (λ gs. get_or gs (suc place - 1) None) grants ∙ get_replicate count (suc place - 1) None)
          (λ id. ap (λ ss. get_or ss id empty_slot) (none (suc place)) ∙ get_replicate most id empty_slot)));
      numbers = grind (arith, length-replicate, sum_cells);
      counted =
          ap block_count memory
          ∙ (no_blocks most ∙ sym (sum_to_none _ _ (λ job. ap blocks_in (none job) ∙ no_blocks most)));
      used =
          ap used_words memory
          ∙ (no_words most ∙ sym (sum_to_none _ _ (λ job. ap words_in (none job) ∙ no_words most)));
    }

-- jobs whose slots are new wait
pub all_wait : (rule : Rule) (jobs : List JobValue) (slots : List SlotState) → length slots ≡ length jobs →
    AreNewSlots jobs slots → standings_of slots ≡ first_standings (map (ruled rule) jobs)
all_wait rule [] [] same new = refl
all_wait rule (j ∷ js) (s ∷ ss) same new =
    let here : standing_of s ≡ Waiting =
    ap (λ (k : Status). standing_by k s.trace.executed) (new 0 j s refl refl).status_is in
    let rest = all_wait rule js ss (omega (arith, same)) (λ place job slot. new (suc place) job slot) in
    λ i. here i ∷ rest i
all_wait rule jobs slots same new = absurd (omega (arith, same))

-- one slot more, of the job at its place
pub new_more : (jobs : List JobValue) (slots : List SlotState) (job : JobValue) (slot : SlotState) → slice_get jobs
    (length slots) ≡ Some job → IsNewSlot job slot → AreNewSlots jobs slots → AreNewSlots jobs (slots ++ slot ∷ [])
new_more [] slots job slot at new each place j s j_at s_at = absurd (none-some j j_at)
new_more (k ∷ js) [] job slot at new each zero j s j_at s_at = grind (arith, same_Some)
new_more (k ∷ js) [] job slot at new each (suc place) j s j_at s_at = absurd (none-some s s_at)
new_more (k ∷ js) (z ∷ ss) job slot at new each zero j s j_at s_at = each 0 j s j_at s_at
new_more (k ∷ js) (z ∷ ss) job slot at new each (suc place) j s j_at s_at =
    new_more js ss job slot at new (λ place j s. each (suc place) j s) place j s j_at s_at
