-- Events of a machine's jobs, one after another.
use Rattle.std.proofs.lemmas.Bool.Decides.{nat_tests}
use Rattle.std.proofs.Common.{rules, ◌≡◌, ◌⊎◌, ℕ, zero, suc, ◌≤◌, Bool, true, false, List, [], ◌∷◌, ◌++◌, length, map}
use Rattle.std.proofs.Common.{set, slice_get, All, Option, Some, None, is_some, refl, sym, ◌∙◌, ap, arith}
use Rattle.std.proofs.lemmas.Bool.{false≢true}
use Rattle.std.proofs.lemmas.Option.{none-some, same_Some, get_or_from_slice_get, slice_get_within}
use Rattle.job_steps.specs.declared.event.Event.{Event}
use Rattle.job_steps.specs.declared.event.Event.TheVariants.{Admit, Recall, Collect}
use Rattle.job_steps.specs.EventLaws.{EventsGoOn, EventsKeep, EventsUseUp, LeadsJoin, RecallsAreEvents, IsVerified}
use Rattle.job_steps.specs.EventLaws.{AreKept}
use Rattle.job_steps.specs.Events.{next_standing, job_of, next_standing_in, next_standing_of, is_open, with_next}
use Rattle.job_steps.specs.Events.{after_event, after_events, recalled_standing, recalled_standings, all_recalls}
use Rattle.job_steps.specs.Events.{is_recall, all_events_left}
use Rattle.job_steps.specs.Standings.{Standing, Collected, Queue, of_job, with_standing, admission}
use Rattle.job_steps.specs.States.{Task}
use Rattle.job_machine.specs.declared.machine.Admission.TheVariants.{Admitted}
use Rattle.job_machine.specs.Machines.{MachineState, queue_of, with_queue, machine_after, recalled, Leads}
use Rattle.job_machine.specs.Machines.{HasNoStep, GoesOn, any_waits, IsWaitingOrCollected, IsDone, admission_by}
use Rattle.job_machine.specs.Machines.{admission_in, is_running}
use Rattle.job_machine.proofs.Places.{beside_at, get-set_same, get-set_other}

-- ---- one job's standing

pub of_with : (job : ℕ) (standings : List Standing) (old new : Standing) → of_job job standings ≡ Some old →
    of_job job (with_standing job new standings) ≡ Some new
of_with job standings old new e = grind (arith, none-some, get-set_same)

pub of_with_other : (job other : ℕ) (standings : List Standing) (new : Standing) → (other ≡ job → ⊥) →
    of_job other (with_standing job new standings) ≡ of_job other standings
of_with_other job other standings new ne = grind (arith, get-set_other)

-- ---- no step

recalled_set : (xs : List Standing) (i : ℕ) (y : Standing) → recalled_standing y ≡ y →
    map recalled_standing (set xs i y) ≡ set (map recalled_standing xs) i y
recalled_set [] i y e = refl
recalled_set (z ∷ xs) i y e = grind (arith, (recalled_set xs))

pub no_step_with : (job : ℕ) (standings : List Standing) (new : Standing) → recalled_standings standings ≡ standings →
    recalled_standing new ≡ new → recalled_standings (with_standing job new standings) ≡ with_standing job new standings
no_step_with job standings new none same = grind (arith, recalled_set)

pub recalled_twice : (standings : List Standing) → recalled_standings (recalled_standings standings) ≡
    recalled_standings standings
recalled_twice [] = refl
recalled_twice (s ∷ standings) = grind (arith, (recalled_twice standings))

recalled_here : (xs : List Standing) (i : ℕ) (x : Standing) → map recalled_standing xs ≡ xs → slice_get xs i ≡ Some x →
    recalled_standing x ≡ x
recalled_here [] i x none e = absurd (none-some x e)
recalled_here (z ∷ xs) i x none e = grind (arith, same_Some, (recalled_here xs))

not_flying : (standings : List Standing) (job : ℕ) (s : Standing) → recalled_standings standings ≡ standings →
    of_job job standings ≡ Some s → recalled_standing s ≡ s
not_flying standings job s none e = grind (arith, none-some, recalled_here)

-- ---- one event

pub leads_one : (event : Event) (m : MachineState) → Leads m (machine_after event m)
leads_one event m = (refl, refl, (event ∷ [], refl), refl)

pub leads_on : LeadsJoin → (old between new : MachineState) → Leads old between → Leads between new → Leads old new
leads_on join old between new first second = (
  cc,
  cc,
  join _ _ (queue_of old) (queue_of between) (queue_of new) first.2 (rw (first.0, first.1) at second.2),
  cc,
)

pub goes_on_on : LeadsJoin → (job : ℕ) (old between new : MachineState) → GoesOn job old between →
    GoesOn job between new → GoesOn job old new
goes_on_on join job old between new first second = record {
  leads = leads_on join old between new first.leads second.leads;
  no_step = second.no_step;
  others = λ other ne. second.others other ne ∙ first.others other ne;
}

pub all_kept : EventsKeep → (old new : MachineState) → All IsVerified old.tasks →
    AreKept old.region old.tasks (queue_of old) → Leads old new → AreKept old.region old.tasks (queue_of new)
all_kept keep old new verified kept leads = grind arith

-- ---- an event that names its job, by the job's standing

-- an event that leaves no step goes on
pub goes_by : (event : Event) (job : ℕ) (m : MachineState) → HasNoStep m →
    ((task : Task) (old new : Standing) → next_standing event task old ≡ Some new → recalled_standing new ≡ new) →
    job_of m.region m.tasks event (queue_of m) ≡ Some job → GoesOn job m (machine_after event m)
unfolding after_event
goes_by event job m none same job_is = record {
  leads = leads_one event m;
  no_step = grind (arith, no_step_with);
  others = λ other ne. grind (arith, of_with_other);
}

pub fewer_after : EventsUseUp → (event : Event) (m : MachineState) → All IsVerified m.tasks →
    AreKept m.region m.tasks (queue_of m) → is_recall event ≡ false →
    all_events_left m.tasks (machine_after event m).standings ≤ all_events_left m.tasks m.standings
unfolding after_event is_open
fewer_after use_up event m verified kept other = search (rules)

-- ---- a collection

pub collected_stays : (job : ℕ) (task : Task) (old new : Standing) → next_standing (Collect job) task old ≡ Some new →
    recalled_standing new ≡ new
collected_stays job task old new e = grind (arith, none-some, same_Some)

-- a job that isn't live and has no step, and whose collection isn't open, is done
idle_by : (job : ℕ) (task : Task) (s : Standing) → is_running (Some s) ≡ false → recalled_standing s ≡ s →
    next_standing (Collect job) task s ≡ None → IsDone (Some s)
idle_by job task s live none closed = grind (arith, false≢true)

pub beside : (m : MachineState) → length m.standings ≡ length m.tasks → (job : ℕ) (x : Standing) →
    of_job job m.standings ≡ Some x → (y : Task) × (of_job job m.tasks ≡ Some y)
beside m same zero x e = absurd (none-some x e)
beside m same (suc i) x e = beside_at m.standings m.tasks (sym same) i x e

idle_in : (job : ℕ) (m : MachineState) → length m.standings ≡ length m.tasks → HasNoStep m → (s : Option Standing) →
    of_job job m.standings ≡ s → is_running s ≡ false → next_standing_in (Collect job) (of_job job m.tasks) s ≡ None →
    IsDone s
idle_in job m same none None s_is live closed = tt
idle_in job m same none (Some s) s_is live closed =
    let task = beside m same job s s_is in
    idle_by job task.0 s live (not_flying m.standings job s none s_is) (rw task.1 at closed)

pub done_after : (job : ℕ) (m : MachineState) → length m.standings ≡ length m.tasks → HasNoStep m →
    is_running (of_job job m.standings) ≡ false → IsDone (of_job job (machine_after (Collect job) m).standings)
unfolding after_event
done_after job m same none live = grind (arith, idle_in, of_with, none-some, same_Some)

-- ---- an admission

pub admitted : (m : MachineState) (job : ℕ) → admission_in m ≡ Admitted job →
    admission m.region m.tasks (queue_of m) ≡ Some job
admitted m job e = grind arith

none_admitted : (m : MachineState) (waits : Bool) (x : Option ℕ) → admission m.region m.tasks (queue_of m) ≡ x →
    ((job : ℕ) → admission_by waits x ≡ Admitted job → ⊥) → admission m.region m.tasks (queue_of m) ≡ None
none_admitted m waits None x_is nobody = x_is
none_admitted m waits (Some job) x_is nobody = absurd (nobody job refl)

pub not_admitted : (m : MachineState) → ((job : ℕ) → admission_in m ≡ Admitted job → ⊥) →
    admission m.region m.tasks (queue_of m) ≡ None
not_admitted m nobody = none_admitted m (any_waits m.standings) _ refl nobody

pub after_none : (m : MachineState) → admission m.region m.tasks (queue_of m) ≡ None →
    after_event m.region m.tasks Admit (queue_of m) ≡ queue_of m
unfolding after_event
after_none m none = ap (λ o. with_next Admit o (next_standing_of m.tasks Admit m.standings o) (queue_of m)) none

-- ---- all wait or are collected

pub idle_at : (standings : List Standing) → All IsWaitingOrCollected standings → (job : ℕ) → (s : Standing) →
    of_job job standings ≡ Some s → IsWaitingOrCollected s
idle_at standings idle job s e = grind (arith, none-some, get_or_from_slice_get, slice_get_within)

closed_by : (event : Event) (task : Task) (s : Standing) → (event ≡ Admit → ⊥) → IsWaitingOrCollected s →
    next_standing event task s ≡ None
closed_by event task s ne idle = grind arith

pub all_by : (m : MachineState) → All IsWaitingOrCollected m.standings → admission m.region m.tasks (queue_of m) ≡ None
    → All (λ standing. standing ≡ Collected) m.standings ⊎ ((event : Event) × (is_recall event ≡ false) × (is_open
    m.region m.tasks event (queue_of m) ≡ true)) → All (λ standing. standing ≡ Collected) m.standings
unfolding is_open
all_by m idle none h3 = grind (arith, nat_tests, false≢true, is_some, none-some, closed_by, idle_at)

-- if none is admitted though no job is under way, all are collected
pub all_collected : EventsGoOn → (m : MachineState) → All (λ task. task.limits.words ≤ m.region) m.tasks → AreKept
    m.region m.tasks (queue_of m) → All IsWaitingOrCollected m.standings → ((job : ℕ) → admission_in m ≡ Admitted job →
    ⊥) → All (λ standing. standing ≡ Collected) (after_event m.region m.tasks Admit (queue_of m)).standings
all_collected go_on m fitting kept idle nobody =
    let none = not_admitted m nobody in
    rw (after_none m none) (all_by m idle none (go_on _ _ fitting (queue_of m) kept.same_length kept.passes_length))

-- ---- a recall of each job

events_join : (region : ℕ) (tasks : List Task) (earlier later : List Event) (queue : Queue) → after_events region tasks
    (earlier ++ later) queue ≡ after_events region tasks later (after_events region tasks earlier queue)
events_join region tasks [] later queue = refl
events_join region tasks (event ∷ earlier) later queue = grind (arith, (events_join region tasks earlier))

-- the machine with the steps of the first jobs given up
abbrev pub recalled_to : MachineState → ℕ → MachineState
recalled_to m place = with_queue m (after_events m.region m.tasks (all_recalls place) (queue_of m))

one_more : (m : MachineState) (place : ℕ) → recalled_to m (suc place) ≡ machine_after (Recall (suc place))
    (recalled_to m place)
one_more m place = grind (arith, events_join)

pub recalled_next : (m self new : MachineState) (place next : ℕ) → next ≡ suc place → self ≡ recalled_to m place →
    new ≡ machine_after (Recall next) self → new ≡ recalled_to m next
recalled_next m self new place next next_is self_is new_is = grind (arith, one_more)

-- what is left when the step of each job is given up
pub record AreRecalled (old new : MachineState) : Type 0 where
  pub recalled_is : new ≡ recalled old
  pub leads : Leads old new
  pub no_step : HasNoStep new

pub all_recalled : RecallsAreEvents → (m new : MachineState) (place : ℕ) → length m.standings ≡ length m.tasks →
    place ≡ length m.tasks → new ≡ recalled_to m place → AreRecalled m new
all_recalled recalls m new place same place_is new_is = grind (arith, recalled_twice)
