-- What lets a machine settle, and keeps it so.
use Rattle.std.proofs.Common.{◌≡◌, ◌≢◌, ◌⊎◌, ℕ, zero, suc, ◌+◌, ◌<◌, ◌≤◌, true, false, Bool}
use Rattle.std.proofs.Common.{List, [], ◌∷◌, length, set, slice_get, Option, Some, None}
use Rattle.std.proofs.Common.{refl, ◌∙◌, arith, inr}
use Rattle.std.proofs.lemmas.Bool.{cases_eq}
use Rattle.std.proofs.lemmas.Option.{none-some, slice_get_within}
use Rattle.job_steps.specs.declared.event.Event.{Event}
use Rattle.job_steps.specs.declared.event.Event.TheVariants.{Admit, Begin, Finish, Collect}
use Rattle.job_steps.specs.EventLaws.{AdmittedHaveRoom, ClosedChangeNothing, EventsChangeTheirJob, OthersStay}
use Rattle.job_steps.specs.Events.{standing_after_begin, standing_after, next_standing, next_standing_in}
use Rattle.job_steps.specs.Events.{next_standing_of, job_of, is_open, passes_after, with_next, after_event}
use Rattle.job_steps.specs.Standings.{Standing, Waiting, Live, InFlight, Ended, Collected, Queue, of_job, with_standing}
use Rattle.job_steps.specs.Standings.{first_standings, is_waiting, reserved_words, granted_words, has_room}
use Rattle.job_steps.specs.Standings.{admission_from, admission}
use Rattle.job_steps.specs.States.{Task}
use Rattle.job_steps.specs.Steps.{Progress}
use Rattle.job_machine.specs.Machines.{MachineState, queue_of, is_over, machine_after}
use Rattle.batch_front.specs.Turns.{after_admissions, after_collections, settled, NoneEnded, IsSettled, IsSettledBut}

-- ---- an event that is passed over

passed : ClosedChangeNothing → (event : Event) (m : MachineState) →
    is_open m.region m.tasks event (queue_of m) ≡ false → machine_after event m ≡ m
passed closed event m e = grind arith

-- the collection of a job that hasn't ended
collect_closed : (job : ℕ) (m : MachineState) → is_over (of_job job m.standings) ≡ false →
    is_open m.region m.tasks (Collect job) (queue_of m) ≡ false
unfolding is_open
collect_closed job m e = grind arith

-- an admission when none fits
admit_closed : (m : MachineState) → admission m.region m.tasks (queue_of m) ≡ None →
    is_open m.region m.tasks Admit (queue_of m) ≡ false
unfolding is_open
admit_closed m none = grind arith

-- ---- all collections and admissions

collections_none : ClosedChangeNothing → (n : ℕ) (m : MachineState) → NoneEnded m → after_collections n m ≡ m
collections_none closed zero m none = refl
collections_none closed (suc n) m none =
    rw (collections_none closed n m none)
    (passed closed (Collect (suc n)) m (collect_closed (suc n) m (none (suc n))))

admissions_none : ClosedChangeNothing → (n : ℕ) (m : MachineState) → admission m.region m.tasks (queue_of m) ≡ None →
    after_admissions n m ≡ m
admissions_none closed zero m none = refl
admissions_none closed (suc n) m none = grind (arith, passed, admit_closed, admissions_none closed n m none)

-- a settled machine stays as it is
pub settled_same : ClosedChangeNothing → (m : MachineState) → IsSettled m → settled m ≡ m
unfolding settled
settled_same closed m s = grind (arith, after_admissions, collections_none, admissions_none)

-- if none has ended, all that have room are admitted
pub settled_waiting : ClosedChangeNothing → (m : MachineState) → NoneEnded m →
    settled m ≡ after_admissions (length m.tasks) m
unfolding settled
settled_waiting closed m none = grind (arith, after_admissions, collections_none)

-- ---- an event of one job

-- it leaves other jobs as they were
other_same : OthersStay → (event : Event) (job other : ℕ) (m : MachineState) →
    job_of m.region m.tasks event (queue_of m) ≡ Some job → other ≢ job →
    of_job other (machine_after event m).standings ≡ of_job other m.standings
other_same stay event job other m is ne = grind arith

-- it neither admits the job nor gives its words back
pub record SameGrant (task : Task) (old new : Standing) : Type 0 where
  pub waiting : is_waiting new ≡ is_waiting old
  pub reserved : reserved_words task new ≡ reserved_words task old

abbrev KeepsGrant : Event → Type 0
KeepsGrant event = (task : Task) (old new : Standing) → next_standing event task old ≡ Some new → SameGrant task old new

begun : (task : Task) (n : ℕ) (p : Progress) → SameGrant task (Live n) (standing_after_begin task n p)
begun task n p = grind arith

finished : (task : Task) (n : ℕ) (p : Progress) → SameGrant task (InFlight n) (standing_after (n + 1) p)
finished task n p = grind arith

begin_keeps : (job : ℕ) → KeepsGrant (Begin job)
begin_keeps job task h new e = grind arith

finish_keeps : (job : ℕ) → KeepsGrant (Finish job)
finish_keeps job task h new e = grind arith

granted_set : (ts : List Task) (ss : List Standing) (i : ℕ) (task : Task) (old new : Standing) →
    slice_get ts i ≡ Some task → slice_get ss i ≡ Some old → reserved_words task new ≡ reserved_words task old →
    granted_words ts (set ss i new) ≡ granted_words ts ss
granted_set [] ss i task old new t s same = grind arith
granted_set (x ∷ ts) [] i task old new t s same = grind arith
granted_set (x ∷ ts) (y ∷ ss) zero task old new t s same = grind arith
granted_set (x ∷ ts) (y ∷ ss) (suc i) task old new t s same = grind (arith, granted_set ts ss i task old new)

-- who is admitted doesn't change with a job that waits as before
walk_set : (first : ℕ) (fits : Task → Bool) (tasks : List Task) (ss : List Standing) (passes : List ℕ) (i : ℕ)
    (old new : Standing) → slice_get ss i ≡ Some old → is_waiting new ≡ is_waiting old →
    admission_from first fits tasks (set ss i new) passes ≡ admission_from first fits tasks ss passes
walk_set first fits tasks [] passes i old new s same = grind arith
walk_set first fits [] (y ∷ ss) passes i old new s same = grind arith
walk_set first fits (x ∷ ts) (y ∷ ss) [] i old new s same = grind arith
walk_set first fits (x ∷ ts) (y ∷ ss) (k ∷ passes) zero old new s same = grind arith
walk_set first fits (x ∷ ts) (y ∷ ss) (k ∷ passes) (suc i) old new s same =
    grind (arith, walk_set (suc first) fits ts ss passes i old new)

admission_set : (region : ℕ) (tasks : List Task) (ss : List Standing) (passes : List ℕ) (i : ℕ) (task : Task)
    (old new : Standing) → slice_get tasks i ≡ Some task → slice_get ss i ≡ Some old → SameGrant task old new →
    admission region tasks (record { standings = set ss i new; passes = passes })
    ≡ admission region tasks (record { standings = ss; passes = passes })
unfolding admission
admission_set region tasks ss passes i task old new t s same =
    grind (arith, admission_from, has_room, set, granted_set, walk_set, granted_words)

-- an event that passes by nobody, and leaves the words and the waiting of its job, leaves who is admitted
record LeavesNext (event : Event) : Type 0 where
  keeps : KeepsGrant event
  passes : (job : ℕ) (queue : Queue) → passes_after event job queue ≡ queue.passes

admission_next : (region : ℕ) (tasks : List Task) (queue : Queue) (event : Event) → LeavesNext event →
    (i : ℕ) (task : Task) (old : Standing) → slice_get tasks i ≡ Some task → slice_get queue.standings i ≡ Some old →
    (next : Option Standing) → next_standing event task old ≡ next →
    admission region tasks (with_next event (Some (suc i)) next queue) ≡ admission region tasks queue
admission_next region tasks queue event leaves i task old t s next e = grind (
  arith,
  leaves.passes (suc i) queue,
  admission_set region tasks queue.standings queue.passes i task old,
  leaves.keeps task old,
)

admission_by : (region : ℕ) (tasks : List Task) (queue : Queue) (event : Event) → LeavesNext event → (i : ℕ) →
    (task : Option Task) → slice_get tasks i ≡ task → (old : Option Standing) → slice_get queue.standings i ≡ old →
    admission region tasks (with_next event (Some (suc i)) (next_standing_in event task old) queue)
    ≡ admission region tasks queue
admission_by region tasks queue event leaves i task t old s = grind (arith, admission_next, next_standing)

admission_of : (region : ℕ) (tasks : List Task) (queue : Queue) (event : Event) → LeavesNext event →
    (job : Option ℕ) →
    admission region tasks (with_next event job (next_standing_of tasks event queue.standings job) queue)
    ≡ admission region tasks queue
admission_of region tasks queue event leaves job = grind (arith, admission_by, slice_get)

admission_same : (event : Event) (m : MachineState) → LeavesNext event →
    admission m.region m.tasks (after_event m.region m.tasks event (queue_of m))
    ≡ admission m.region m.tasks (queue_of m)
unfolding after_event
admission_same event m leaves =
    admission_of m.region m.tasks (queue_of m) event leaves (job_of m.region m.tasks event (queue_of m))

but_one : OthersStay → (event : Event) (job : ℕ) (m : MachineState) → LeavesNext event →
    job_of m.region m.tasks event (queue_of m) ≡ Some job → IsSettledBut job m
    → IsSettledBut job (machine_after event m)
but_one stay event job m leaves is s = record {
  none_ended = λ other ne. grind (arith, other_same stay event job other m is ne, s.none_ended other ne);
  none_admitted = admission_same event m leaves ∙ s.none_admitted;
}

-- a begin or a finish may end that job alone
pub after_begin : OthersStay → (job : ℕ) (m : MachineState) → IsSettledBut job m →
    IsSettledBut job (machine_after (Begin job) m)
after_begin stay job m s =
    but_one stay (Begin job) job m (record { keeps = begin_keeps job; passes = grind arith }) refl s

pub after_finish : OthersStay → (job : ℕ) (m : MachineState) → IsSettledBut job m →
    IsSettledBut job (machine_after (Finish job) m)
after_finish stay job m s =
    but_one stay (Finish job) job m (record { keeps = finish_keeps job; passes = grind arith }) refl s

pub settled_but : (job : ℕ) (m : MachineState) → IsSettled m → IsSettledBut job m
settled_but job m s = grind arith

-- ---- a job that may have ended

-- if it hasn't, all is settled
pub settled_by : (job : ℕ) (m : MachineState) → IsSettledBut job m → is_over (of_job job m.standings) ≡ false →
    IsSettled m
settled_by job m s e = grind arith

-- the collections before its own find nothing
collections_before : ClosedChangeNothing → (n job : ℕ) (m : MachineState) → IsSettledBut job m → n < job →
    after_collections n m ≡ m
collections_before closed zero job m s l = refl
collections_before closed (suc n) job m s l =
    grind (arith, passed, collect_closed, collections_before closed n job m s, s.none_ended (suc n))

-- and so do those after it
collections_of : ClosedChangeNothing → OthersStay → (n job : ℕ) (m : MachineState) → IsSettledBut job m → 1 ≤ job →
    job ≤ n → after_collections n m ≡ machine_after (Collect job) m
collections_of closed stay zero job m s first last = grind arith
collections_of closed stay (suc n) job m s first last = grind (
  arith,
  collections_of closed stay n job m s first,
  collections_before closed n job m s,
  cases_eq (suc n) job,
  other_same stay (Collect job) job (suc n) m refl,
  s.none_ended (suc n),
  passed closed (Collect (suc n)),
  collect_closed (suc n),
)

beside : (ss : List Standing) (ts : List Task) → length ss ≡ length ts → (i : ℕ) (s : Standing) →
    slice_get ss i ≡ Some s → (task : Task) × (slice_get ts i ≡ Some task)
beside [] ts same i s e = grind arith
beside (y ∷ ss) [] same i s e = grind arith
beside (y ∷ ss) (x ∷ ts) same zero s e = (x, refl)
beside (y ∷ ss) (x ∷ ts) same (suc i) s e = beside ss ts (omega (arith, same)) i s e

get-set_same : (ss : List Standing) (i : ℕ) (old new : Standing) → slice_get ss i ≡ Some old →
    slice_get (set ss i new) i ≡ Some new
get-set_same [] i old new e = grind arith
get-set_same (s ∷ ss) zero old new e = refl
get-set_same (s ∷ ss) (suc i) old new e = get-set_same ss i old new e

-- a job that has ended is collected
collected : EventsChangeTheirJob → (job : ℕ) (m : MachineState) → length m.standings ≡ length m.tasks →
    of_job job m.standings ≡ Some Ended → of_job job (machine_after (Collect job) m).standings ≡ Some Collected
collected change zero m same e = grind arith
collected change (suc i) m same e =
    let task = beside m.standings m.tasks same i Ended e in
    let c = change m.region m.tasks (Collect (suc i)) (queue_of m) (suc i) task.0 Ended refl task.1 e in
    grind (arith, c.changed Collected refl, get-set_same m.standings i Ended Collected e)

pub ended_is : (s : Option Standing) → is_over s ≡ true → s ≡ Some Ended
ended_is s e = grind arith

-- a machine of which a job has ended that is collected now
pub record HasCollected (m new : MachineState) : Type 0 where
  pub none_ended : NoneEnded new
  pub same : settled new ≡ settled m

within : (ss : List Standing) (job : ℕ) (s : Standing) → of_job job ss ≡ Some s → (1 ≤ job) × (job ≤ length ss)
within ss job s e = grind (arith, none-some, slice_get_within)

pub has_collected : ClosedChangeNothing → OthersStay → EventsChangeTheirJob → (job : ℕ) (m : MachineState) →
    length m.standings ≡ length m.tasks → IsSettledBut job m → of_job job m.standings ≡ Some Ended →
    HasCollected m (machine_after (Collect job) m)
unfolding settled
has_collected closed stay change job m same s e =
    let at = within m.standings job Ended e in
    let none : NoneEnded (machine_after (Collect job) m) =
    λ other. grind (
      arith,
      collected change job m same e,
      other_same stay (Collect job) job other m refl,
      s.none_ended other,
      cases_eq other job,
    ) in
    record {
      none_ended = none;
      same = grind (
        arith,
        settled_waiting closed (machine_after (Collect job) m) none,
        collections_of closed stay (length m.tasks) job m s,
      );
    }

-- ---- admissions

-- if all wait, none has ended
first_none : (tasks : List Task) (i : ℕ) → is_over (slice_get (first_standings tasks) i) ≡ false
first_none [] i = refl
first_none (task ∷ tasks) zero = refl
first_none (task ∷ tasks) (suc i) = first_none tasks i

pub none_ended_first : (m : MachineState) → m.standings ≡ first_standings m.tasks → NoneEnded m
none_ended_first m e h = grind (arith, is_over, slice_get, first_none)

abbrev waits : Standing → ℕ
waits Waiting = 1
waits (Live n) = 0
waits (InFlight n) = 0
waits Ended = 0
waits Collected = 0

abbrev waiting_count : List Standing → ℕ
waiting_count [] = 0
waiting_count (s ∷ ss) = waits s + waiting_count ss

waits_once : (s : Standing) → waits s ≤ 1
waits_once s = grind arith

waiting_within : (ss : List Standing) → waiting_count ss ≤ length ss
waiting_within [] = omega arith
waiting_within (s ∷ ss) = grind (arith, waits_once s, waiting_within ss)

waiting_set : (ss : List Standing) (i : ℕ) → slice_get ss i ≡ Some Waiting →
    waiting_count (set ss i (Live 0)) + 1 ≡ waiting_count ss
waiting_set [] i e = grind arith
waiting_set (s ∷ ss) zero e = grind arith
waiting_set (s ∷ ss) (suc i) e = grind (arith, waiting_set ss i e)

waiting_with : (job : ℕ) (ss : List Standing) → of_job job ss ≡ Some Waiting →
    waiting_count (with_standing job (Live 0) ss) + 1 ≡ waiting_count ss
waiting_with job ss e = grind (arith, none-some, waiting_set)

-- an admission leaves one fewer waiting
fewer_waiting : AdmittedHaveRoom → EventsChangeTheirJob → (job : ℕ) (m : MachineState) →
    admission m.region m.tasks (queue_of m) ≡ Some job →
    waiting_count (machine_after Admit m).standings + 1 ≡ waiting_count m.standings
fewer_waiting have change job m is =
    let room = have m.region m.tasks (queue_of m) job is in
    let changes = change m.region m.tasks Admit (queue_of m) job room.task Waiting is room.task_is room.waits in
    grind (arith, changes.changed (Live 0) refl, waiting_with job m.standings)

-- n admissions leave none that can be admitted, or n fewer waiting
abbrev CountsDown : ℕ → MachineState → MachineState → Type 0
CountsDown n m new =
    (admission new.region new.tasks (queue_of new) ≡ None)
    ⊎ (waiting_count new.standings + n ≤ waiting_count m.standings)

counts_down : ClosedChangeNothing → AdmittedHaveRoom → EventsChangeTheirJob → (n : ℕ) (m : MachineState) →
    CountsDown n m (after_admissions n m)
counts_down closed have change zero m = inr (omega arith)
counts_down closed have change (suc n) m =
    grind (arith, counts_down closed have change n m, fewer_waiting have change, passed closed Admit, admit_closed)

-- as many admissions as wait leave none that can be admitted
none_admitted : ClosedChangeNothing → AdmittedHaveRoom → EventsChangeTheirJob → (n : ℕ) (m : MachineState) →
    waiting_count m.standings ≤ n → (new : MachineState) → CountsDown n m new →
    admission new.region new.tasks (queue_of new) ≡ None
none_admitted closed have change n m few new h = grind (arith, admission, queue_of, fewer_waiting)

ended_set : (ss : List Standing) (i j : ℕ) (new : Standing) → is_over (Some new) ≡ false
    → is_over (slice_get ss j) ≡ false →
    is_over (slice_get (set ss i new) j) ≡ false
ended_set [] i j new e h = h
ended_set (s ∷ ss) zero zero new e h = e
ended_set (s ∷ ss) zero (suc j) new e h = h
ended_set (s ∷ ss) (suc i) zero new e h = h
ended_set (s ∷ ss) (suc i) (suc j) new e h = ended_set ss i j new e h

admitted_live : (task : Option Task) (standing : Option Standing) (job other : ℕ) (queue : Queue) →
    is_over (of_job other queue.standings) ≡ false →
    is_over (of_job other (with_next Admit (Some job) (next_standing_in Admit task standing) queue).standings) ≡ false
admitted_live task standing job other queue h = grind (arith, ended_set)

none_ended_by : (tasks : List Task) (job : Option ℕ) (other : ℕ) (queue : Queue) →
    is_over (of_job other queue.standings) ≡ false →
    is_over (of_job other (with_next Admit job (next_standing_of tasks Admit queue.standings job) queue).standings)
    ≡ false
none_ended_by tasks job other queue h = grind (arith, admitted_live, of_job)

-- an admission ends no job
none_ended_after : (m : MachineState) → NoneEnded m → NoneEnded (machine_after Admit m)
unfolding after_event
none_ended_after m none job =
    none_ended_by m.tasks (job_of m.region m.tasks Admit (queue_of m)) job (queue_of m) (none job)

none_ended_all : (n : ℕ) (m : MachineState) → NoneEnded m → NoneEnded (after_admissions n m)
none_ended_all zero m none = none
none_ended_all (suc n) m none = none_ended_after (after_admissions n m) (none_ended_all n m none)

-- the machine that another becomes when it settles
pub record HasSettled (m new : MachineState) : Type 0 where
  pub state : new ≡ settled m
  pub settled : IsSettled new

pub has_settled : ClosedChangeNothing → AdmittedHaveRoom → EventsChangeTheirJob → (m new : MachineState) →
    length m.standings ≡ length m.tasks → NoneEnded m → new ≡ after_admissions (length m.tasks) m → HasSettled m new
has_settled closed have change m new same none is = grind (
  arith,
  waiting_within,
  none_admitted closed have change (length m.tasks) m,
  counts_down closed have change (length m.tasks) m,
  none_ended_all (length m.tasks) m none,
  settled_waiting closed m none,
)
