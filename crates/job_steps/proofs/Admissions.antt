-- Who is passed by, and how often; which job is admitted next; and an event is open while some job isn't collected.
use Rattle.std.proofs.Common.{arith, sym, ◌≡◌, ◌≢◌, ℕ, suc, List, [], ◌∷◌, ◌⊎◌, inl, inr, length, Some, refl, ◌∙◌, ap}
use Rattle.std.proofs.Common.{◌↔◌, zero, ◌+◌, ◌<◌, ◌≤◌, Bool, true, false, slice_get, rules, All}
use Rattle.std.proofs.lemmas.Bool.{cases_eq, le-leb, lt-leb}
use Rattle.job_steps.specs.declared.event.Event.{Event}
use Rattle.job_steps.specs.declared.event.Event.TheVariants.{Admit, Begin, Finish, Collect}
use Rattle.job_steps.specs.Events.{after_event, after_events, is_open, is_recall}
use Rattle.job_steps.specs.Standings.{Standing, Waiting, Live, Queue, AreFew, of_job, admission, passes_before}
use Rattle.job_steps.specs.Standings.{granted_words, has_room, admission_from, InFlight, Ended, Collected}
use Rattle.job_steps.specs.States.{Task}
use Rattle.std.proofs.lemmas.Option.{none-some, same_Some}
use Rattle.job_steps.specs.EventLaws.{IsNext, MayBePassed, PassesBy}
use Rattle.std.proofs.lemmas.List.Elements.{All-nil, All-head, All-tail}
use Rattle.job_steps.proofs.Happenings.{happens, changes_its_job, open_where}
use Rattle.job_steps.proofs.Standings.{admitted_has_room, of_with, of_with_other, passes_length, not_passed}
use Rattle.job_steps.proofs.Standings.{admitted_few, PassableBefore, admitted_next, admits}

-- an event that is no admission passes by nobody
pub others_pass_nobody : (region : ℕ) (tasks : List Task) (event : Event) (queue : Queue) → event ≢ Admit →
    (after_event region tasks event queue).passes ≡ queue.passes
others_pass_nobody region tasks event queue other = let h = happens region tasks event queue in grind arith

pub admissions_pass_once : (region : ℕ) (tasks : List Task) (queue : Queue) (place : ℕ) →
    admission region tasks queue ≡ Some (suc place) → (after_event region tasks Admit queue).passes ≡ passes_before
    place queue.standings queue.passes
admissions_pass_once region tasks queue place e =
    let h = admitted_has_room region tasks queue (suc place) e in
    let c = changes_its_job region tasks Admit queue (suc place) h.task Waiting e h.task_is h.waits in
    ap (λ (q : Queue). q.passes) (c.changed (Live 0) refl)

-- ---- one event

module _ (region : ℕ) (tasks : List Task) where
  pub after_length : (event : Event) (queue : Queue) → length (after_event region tasks event queue).passes
      ≡ length queue.passes
  after_length event queue = let h = happens region tasks event queue in grind (arith, passes_length)

  pub after_few : (event : Event) (queue : Queue) → AreFew queue.passes →
      AreFew (after_event region tasks event queue).passes
  after_few event queue few = let h = happens region tasks event queue in grind (arith, admitted_few)

  -- ---- events one after another

  pub passes_are_few : (events : List Event) (queue : Queue) → AreFew queue.passes →
      AreFew (after_events region tasks events queue).passes
  passes_are_few [] queue few = few
  passes_are_few (event ∷ events) queue few =
      passes_are_few events (after_event region tasks event queue) (after_few event queue few)

  -- a job that doesn't wait doesn't do so after one event more
  still_moved : (event : Event) (queue : Queue) (job : ℕ) → (of_job job queue.standings ≡ Some Waiting → ⊥) →
      of_job job (after_event region tasks event queue).standings ≡ Some Waiting → ⊥
  still_moved event queue job moved e =
      let h = happens region tasks event queue in grind (arith, of_with, of_with_other, cases_eq)

  stay : (events : List Event) (queue : Queue) (job : ℕ) → (of_job job queue.standings ≡ Some Waiting → ⊥) →
      of_job job (after_events region tasks events queue).passes ≡ of_job job queue.passes
  stay [] queue job moved = refl
  stay (event ∷ events) queue job moved =
      let h = happens region tasks event queue in
      let later = stay events (after_event region tasks event queue) job (still_moved event queue job moved) in
      grind (arith, not_passed)

  pub passes_stay : (events : List Event) (queue : Queue) (job : ℕ) (s : Standing) →
      of_job job queue.standings ≡ Some s → s ≢ Waiting → of_job job (after_events region tasks events queue).passes
      ≡ of_job job queue.passes
  passes_stay events queue job s e moved = stay events queue job (λ w. moved (same_Some s Waiting (sym e ∙ w)))

  -- ---- the job that is next

  passable_at : (queue : Queue) (place : ℕ) → PassableBefore (has_room region (granted_words tasks queue.standings))
      tasks queue.standings queue.passes place → (earlier : ℕ) (task : Task) → earlier < suc place →
      of_job earlier tasks ≡ Some task → of_job earlier queue.standings ≡ Some Waiting →
      MayBePassed region tasks queue earlier task
  passable_at queue place before earlier task less t w = grind arith

  is_next : (queue : Queue) (job : ℕ) → admission region tasks queue ≡ Some job → IsNext region tasks queue job
  is_next queue job e =
      let n = admitted_next region tasks queue job e in
      record {
        room = admitted_has_room region tasks queue job e;
        before = λ earlier task less t w.
            passable_at queue n.place n.before earlier task (omega (arith, less, n.job_is)) t w;
      }

found_at : (first place : ℕ) (fits : Task → Bool) (tasks : List Task) (standings : List Standing) (passes : List ℕ)
    (task : Task) (job : ℕ) → job ≡ place + first → length standings ≡ length tasks → length passes ≡ length tasks →
    slice_get tasks place ≡ Some task → slice_get standings place ≡ Some Waiting → fits task ≡ true →
    PassableBefore fits tasks standings passes place → admission_from first fits tasks standings passes ≡ Some job
found_at first place fits [] standings passes task job is ss ps t w f before = absurd (none-some task t)
found_at first zero fits (x ∷ tasks) (s ∷ standings) (k ∷ passes) task job is ss ps t w f before = grind arith
found_at first (suc place) fits (x ∷ tasks) (s ∷ standings) (k ∷ passes) task job is ss ps t w f before =
    let here = before zero x (omega arith) refl in
    let later = found_at (suc first) place fits tasks standings passes task job (omega (arith, is)) (omega (arith, ss))
    (omega (arith, ps)) t w f (λ i other less. before (suc i) other (omega (arith, less))) in grind arith
found_at first place fits (x ∷ tasks) standings passes task job is ss ps t w f before = absurd (omega (arith, ss, ps))

next_found : (region : ℕ) (tasks : List Task) (queue : Queue) (job : ℕ) → length queue.standings ≡ length tasks →
    length queue.passes ≡ length tasks → IsNext region tasks queue job → admission region tasks queue ≡ Some job
unfolding admission
next_found region tasks queue zero ss ps n = absurd (none-some n.room.task n.room.task_is)
next_found region tasks queue (suc place) ss ps n =
    let r = n.room in
    found_at 1 place (has_room region (granted_words tasks queue.standings)) tasks queue.standings queue.passes r.task
    (suc place) (omega arith) ss ps r.task_is r.waits (le-leb _ region r.room) (λ i other less o o_waits.
    let h = n.before (suc i) other (omega (arith, less)) o o_waits in (lt-leb _ _ h.no_room, h.few))

pub admissions_are_next : (region : ℕ) (tasks : List Task) (queue : Queue) (job : ℕ) →
    length queue.standings ≡ length tasks → length queue.passes ≡ length tasks →
    (admission region tasks queue ≡ Some job) ↔ IsNext region tasks queue job
admissions_are_next region tasks queue job ss ps =
    (is_next region tasks queue job, next_found region tasks queue job ss ps)

-- ---- whom an admission passes by

once_more_at : (place : ℕ) (standings : List Standing) (passes : List ℕ) (i : ℕ) →
    slice_get standings i ≡ Some Waiting → i < place → (count : ℕ) → slice_get passes i ≡ Some count →
    slice_get (passes_before place standings passes) i ≡ Some (count + 1)
once_more_at zero standings passes i w less count c = absurd (omega (arith, less))
once_more_at (suc place) standings passes i w less count c = grind (arith, (once_more_at place))

stays_at : (place : ℕ) (standings : List Standing) (passes : List ℕ) (i : ℕ) → place ≤ i →
    slice_get (passes_before place standings passes) i ≡ slice_get passes i
stays_at zero standings passes i after = refl
stays_at (suc place) standings passes i after = grind (arith, (stays_at place))

pub admissions_pass_those_before : (region : ℕ) (tasks : List Task) (queue : Queue) (job : ℕ) →
    admission region tasks queue ≡ Some job → (other : ℕ) (standing : Standing) →
    of_job other queue.standings ≡ Some standing → PassesBy job other standing (of_job other queue.passes)
    (of_job other (after_event region tasks Admit queue).passes)
admissions_pass_those_before region tasks queue job e other standing s_is =
    let n = admitted_next region tasks queue job e in
    let once = admissions_pass_once region tasks queue n.place in grind (arith, once_more_at, stays_at, not_passed)

-- an event that is no recall, and open
abbrev GoesOn : ℕ → List Task → Queue → Type 0
GoesOn region tasks queue = (event : Event) × (is_recall event ≡ false) × (is_open region tasks event queue ≡ true)

-- a job that has words and isn't recalled may go on
abbrev IsBusy : Standing → Type 0
IsBusy Waiting = ⊥
IsBusy Collected = ⊥
IsBusy standing = Unit {0}

abbrev IsIdle : Standing → Type 0
IsIdle Waiting = Unit {0}
IsIdle Collected = Unit {0}
IsIdle standing = ⊥

abbrev AllIdle : List Standing → Type 0
AllIdle [] = Unit {0}
AllIdle (s ∷ standings) = IsIdle s × AllIdle standings

-- a place of a busy job, with its task and standing
abbrev Busy : List Task → List Standing → Type 0
Busy tasks standings =
    (place : ℕ) × (task : Task) × (standing : Standing) × (slice_get tasks place ≡ Some task) ×
    (slice_get standings place ≡ Some standing) × IsBusy standing

behind_idle : (t : Task) (s : Standing) (tasks : List Task) (standings : List Standing) → IsIdle s →
    Busy tasks standings ⊎ AllIdle standings → Busy (t ∷ tasks) (s ∷ standings) ⊎ AllIdle (s ∷ standings)
behind_idle t s tasks standings idle (inl (place, task, standing, task_is, standing_is, busy)) =
    inl (suc place, task, standing, task_is, standing_is, busy)
behind_idle t s tasks standings idle (inr all) = inr (idle, all)

find : (tasks : List Task) (standings : List Standing) → length standings ≡ length tasks →
    Busy tasks standings ⊎ AllIdle standings
find tasks [] same = inr tt
find [] (s ∷ standings) same = absurd (omega (arith, same))
find (t ∷ tasks) (Waiting ∷ standings) same =
    behind_idle t Waiting tasks standings tt (find tasks standings (omega (arith, same)))
find (t ∷ tasks) (Collected ∷ standings) same =
    behind_idle t Collected tasks standings tt (find tasks standings (omega (arith, same)))
find (t ∷ tasks) (s ∷ standings) same = inl (zero, t, s, refl, refl, tt)

-- ---- a job that may go on

busy_goes_on : (region : ℕ) (tasks : List Task) (queue : Queue) (i : ℕ) (task : Task) → slice_get tasks i ≡ Some task →
    (s : Standing) → slice_get queue.standings i ≡ Some s → IsBusy s → GoesOn region tasks queue
busy_goes_on region tasks queue i task t (Live n) e busy =
    (Begin (suc i), refl, open_where region tasks (Begin (suc i)) queue (suc i) task (Live n) _ refl t e refl)
busy_goes_on region tasks queue i task t (InFlight n) e busy =
    (Finish (suc i), refl, open_where region tasks (Finish (suc i)) queue (suc i) task (InFlight n) _ refl t e refl)
busy_goes_on region tasks queue i task t Ended e busy =
    (Collect (suc i), refl, open_where region tasks (Collect (suc i)) queue (suc i) task Ended _ refl t e refl)
busy_goes_on region tasks queue i task t s e busy = absurd busy

-- ---- all wait or are collected

idle_granted : (tasks : List Task) (standings : List Standing) → AllIdle standings → granted_words tasks standings ≡ 0
idle_granted [] standings idle = refl
idle_granted (t ∷ tasks) standings idle = grind (arith, (idle_granted tasks))

-- each job has room beside no words
all_fit : (region granted : ℕ) (tasks : List Task) → granted ≡ 0 → All (λ task. task.limits.words ≤ region) tasks →
    All (λ task. has_room region granted task ≡ true) tasks
all_fit region granted tasks none words = grind arith

-- all are collected, or a job is admitted
abbrev IdleOr : ℕ → (Task → Bool) → List Task → List Standing → List ℕ → Type 0
IdleOr first fits tasks standings passes =
    All (λ standing. standing ≡ Collected) standings ⊎
    ((job : ℕ) × (admission_from first fits tasks standings passes ≡ Some job))

-- if each job waits or is collected, and each fits, the first that waits is admitted
idle_admits : (first : ℕ) (fits : Task → Bool) (tasks : List Task) (standings : List Standing) (passes : List ℕ) →
    AllIdle standings → All (λ task. fits task ≡ true) tasks → length standings ≡ length tasks →
    length passes ≡ length tasks → IdleOr first fits tasks standings passes
idle_admits first fits (t ∷ tasks) (Waiting ∷ standings) (k ∷ passes) idle fit same count =
    let here : fits t ≡ true = All-head (λ (task : Task). fits task ≡ true) t tasks fit in inr (first, rw here)
idle_admits first fits (t ∷ tasks) (Collected ∷ standings) (k ∷ passes) idle fit same count =
    let later = idle_admits (suc first) fits tasks standings passes idle.1
    (All-tail (λ (task : Task). fits task ≡ true) t tasks fit) (omega (arith, same)) (omega (arith, count)) in
    grind arith
idle_admits first fits (t ∷ tasks) (s ∷ standings) (k ∷ passes) idle fit same count = absurd idle.0
idle_admits first fits tasks [] passes idle fit same count = inl (All-nil (λ (s : Standing). s ≡ Collected))
idle_admits first fits tasks standings passes idle fit same count = absurd (omega (arith, same, count))

module _ (region : ℕ) (tasks : List Task) where
  idle_goes_on : (queue : Queue) → IdleOr 1 (has_room region (granted_words tasks queue.standings)) tasks
      queue.standings queue.passes → All (λ standing. standing ≡ Collected) queue.standings ⊎ GoesOn region tasks queue
  idle_goes_on queue (inl all) = inl all
  idle_goes_on queue (inr (job, next)) =
      let e = admits region tasks queue (Some job) next in
      let h = admitted_has_room region tasks queue job e in
      inr (Admit, refl, open_where region tasks Admit queue job h.task Waiting (Live 0) e h.task_is h.waits refl)

  goes_on_by : All (λ task. task.limits.words ≤ region) tasks → (queue : Queue) →
      length queue.standings ≡ length tasks → length queue.passes ≡ length tasks →
      Busy tasks queue.standings ⊎ AllIdle queue.standings → All (λ standing. standing ≡ Collected) queue.standings ⊎
      GoesOn region tasks queue
  goes_on_by words queue same count (inl (place, task, standing, task_is, standing_is, busy)) =
      inr (busy_goes_on region tasks queue place task task_is standing standing_is busy)
  goes_on_by words queue same count (inr idle) =
      search (rules, idle_goes_on, idle_admits, all_fit, idle_granted)

  pub events_go_on : All (λ task. task.limits.words ≤ region) tasks → (queue : Queue) →
      length queue.standings ≡ length tasks → length queue.passes ≡ length tasks →
      All (λ standing. standing ≡ Collected) queue.standings ⊎ GoesOn region tasks queue
  events_go_on words queue same count =
      goes_on_by words queue same count (find tasks queue.standings same)
