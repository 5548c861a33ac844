-- Who is admitted next, and who is passed by.
use Rattle.std.proofs.lemmas.Bool.Decides.{nat_tests}
use Rattle.std.proofs.Common.{◌≡◌, ℕ, zero, suc, ◌+◌, ◌<◌, ◌≤◌, Bool, true, false, cond, ◌||◌, List, [], ◌∷◌, length}
use Rattle.std.proofs.Common.{inl, inr, map, set, drop, get_or, refl, arith, drop-cons, ◌↔◌}
use Rattle.std.specs.Prelude.{IsTrue}
use Rattle.std.proofs.lemmas.Bool.{le-leb, lt-leb, cases_lt, false≢true}
use Rattle.std.proofs.lemmas.List.{drop_all}
use Rattle.std.proofs.lemmas.Option.{slice_get_cases}
use Rattle.vcode_base.specs.declared.limits.TheConstants.{MOST_PASSES}
use Rattle.vcode_base.specs.declared.rule.Rule.{Rule}
use Rattle.job_memory.specs.JobBlocks.{JobBlocks, granted_words}
use Rattle.job_steps.specs.Standings.{Standing, is_waiting, has_room, admission_from}
use Rattle.job_steps.specs.Standings.{passes_before}
use Rattle.job_steps.specs.States.{JobValue, ruled}
use Rattle.job_slots.specs.Slots.{SlotState, standing_of}
use Rattle.job_machine.specs.declared.machine.Admission.{Admission}
use Rattle.job_machine.specs.declared.machine.Admission.TheVariants.{Admitted, NotNow, NoneWaiting}
use Rattle.job_machine.specs.Machines.{any_waits, admission_by}
use Rattle.job_machine.specs.Sound.{standings_of}

-- ---- the walk over the jobs

-- what is answered from a place on, by whether a job before it waits
abbrev pub rest_by : Rule → JobBlocks → Bool → ℕ → List JobValue → List SlotState → List ℕ → Admission
rest_by rule blocks waits first jobs slots passes =
    admission_by (waits || any_waits (standings_of slots))
    (admission_from first (has_room blocks.memory.room (granted_words blocks)) (map (ruled rule) jobs)
    (standings_of slots) passes)

-- the result of a test of room
pub fits_by : (b : Bool) (room granted words own : ℕ) → b ≡ true → (IsTrue b ↔ (granted + words ≤ room)) → words ≡ own →
    granted + own ≤ room
fits_by b room granted words own b_is both same = grind (arith, false≢true)

pub past_by : (b : Bool) (room granted words own : ℕ) → b ≡ false → (IsTrue b ↔ (granted + words ≤ room)) →
    words ≡ own → room < granted + own
past_by b room granted words own b_is both same = grind (arith, false≢true, cases_lt)

-- what is answered from a place on
abbrev pub rest_at : Rule → JobBlocks → List JobValue → List SlotState → List ℕ → Bool → ℕ → Admission
rest_at rule blocks jobs slots passes waits place =
    rest_by rule blocks waits (suc place) (drop place jobs) (drop place slots) (drop place passes)

module _ (rule : Rule) (blocks : JobBlocks) (jobs : List JobValue) (slots : List SlotState) (passes : List ℕ)
    (waits : Bool) (place : ℕ) (slot : SlotState) (within : place < length slots) (same : length slots ≡ length jobs)
    (long : length passes ≡ length jobs) (slot_is : slot ≡ get_or slots place slot) where
  -- a job that doesn't wait
  pub rest_skips : is_waiting (standing_of slot) ≡ false →
      rest_at rule blocks jobs slots passes waits place ≡ rest_at rule blocks jobs slots passes waits (place + 1)
  rest_skips w_is = elim ((slice_get_cases jobs place).1) [
    | inl found ↦
        let j = drop-cons jobs place found.0 (omega arith) in
        let s = drop-cons slots place slot within in
        let p = drop-cons passes place 0 (omega arith) in
        grind (arith, rest_by, admission_by, has_room)
    | inr past ↦ absurd (omega arith)
  ]

  module _ (job : JobValue) (job_is : job ≡ get_or jobs place job) where
    -- the first that waits and fits
    pub rest_admits : is_waiting (standing_of slot) ≡ true → granted_words blocks + job.limits.words ≤
        blocks.memory.room → rest_at rule blocks jobs slots passes waits place ≡ Admitted (place + 1)
    rest_admits w_is fits =
        let j = drop-cons jobs place job (omega arith) in
        let s = drop-cons slots place slot within in
        let p = drop-cons passes place 0 (omega arith) in
        grind (arith, rest_by, admission_by, has_room, le-leb)

    -- a job that waits, doesn't fit, and was passed by as often as a job may be
    pub rest_stops : is_waiting (standing_of slot) ≡ true → blocks.memory.room < granted_words blocks + job.limits.words
        → MOST_PASSES ≤ get_or passes place 0 → rest_at rule blocks jobs slots passes waits place ≡ NotNow
    rest_stops w_is past most = grind (arith, rest_by, admission_by, has_room, lt-leb, le-leb, drop-cons)

    -- a job that waits, doesn't fit, and is passed by
    pub rest_passes : is_waiting (standing_of slot) ≡ true →
        blocks.memory.room < granted_words blocks + job.limits.words → get_or passes place 0 < MOST_PASSES →
        rest_at rule blocks jobs slots passes waits place ≡ rest_at rule blocks jobs slots passes true (place + 1)
    rest_passes w_is past few = grind (arith, rest_by, admission_by, has_room, lt-leb, drop-cons)

-- no job is left
pub rest_ends : (rule : Rule) (blocks : JobBlocks) (jobs : List JobValue) (slots : List SlotState) (passes : List ℕ)
    (waits : Bool) (place : ℕ) → length slots ≤ place → length slots ≡ length jobs →
    rest_at rule blocks jobs slots passes waits place ≡ cond waits NotNow NoneWaiting
rest_ends rule blocks jobs slots passes waits place past same = grind (arith, drop_all)

-- ---- one pass more

-- a job that waits at the place is passed by once more
pub more_before : (slots : List SlotState) (old : List ℕ) (place : ℕ) (slot : SlotState) → length old ≡ length slots →
    place < length slots → slot ≡ get_or slots place slot → is_waiting (standing_of slot) ≡ true →
    set (passes_before place (standings_of slots) old) place
    (get_or (passes_before place (standings_of slots) old) place 0 + 1) ≡ passes_before (suc place) (standings_of slots)
    old
more_before [] old place slot same within is waits = absurd (omega arith)
more_before (s ∷ slots) [] place slot same within is waits = absurd (omega (arith, same))
more_before (s ∷ slots) (n ∷ old) zero slot same within is waits = grind (arith, nat_tests)
more_before (s ∷ slots) (n ∷ old) (suc place) slot same within is waits =
    grind (arith, (more_before slots old place slot))

-- one that doesn't isn't
pub same_before : (slots : List SlotState) (old : List ℕ) (place : ℕ) (slot : SlotState) → length old ≡ length slots →
    place < length slots → slot ≡ get_or slots place slot → is_waiting (standing_of slot) ≡ false →
    passes_before place (standings_of slots) old ≡ passes_before (suc place) (standings_of slots) old
same_before [] old place slot same within is waits = absurd (omega arith)
same_before (s ∷ slots) [] place slot same within is waits = absurd (omega (arith, same))
same_before (s ∷ slots) (n ∷ old) zero slot same within is waits = grind (arith, nat_tests)
same_before (s ∷ slots) (n ∷ old) (suc place) slot same within is waits =
    grind (arith, (same_before slots old place slot))

-- those from the place on are as they were
pub get_before : (place : ℕ) (standings : List Standing) (passes : List ℕ) (d : ℕ) →
    get_or (passes_before place standings passes) place d ≡ get_or passes place d
get_before zero standings passes d = refl
get_before (suc place) [] passes d = refl
get_before (suc place) (s ∷ standings) passes d = grind (arith, (get_before place))

pub before_length : (place : ℕ) (standings : List Standing) (passes : List ℕ) →
    length (passes_before place standings passes) ≡ length passes
before_length zero standings passes = refl
before_length (suc place) standings passes = grind (arith, (before_length place))
