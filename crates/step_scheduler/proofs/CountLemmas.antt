-- How many instructions the jobs have executed, after events.
use Rattle.std.proofs.Common.{◌≡◌, ℕ, zero, suc, ◌+◌, ◌*◌, ◌≤◌, List, [], ◌∷◌, length, map, take}
use Rattle.std.proofs.Common.{slice_get, All, Option, Some, None, refl, sym, ap, subst, add-one, false, arith}
use Rattle.std.specs.Option.{unwrap_or}
use Rattle.std.proofs.lemmas.Option.{none-some, get_or_from_slice_get, slice_get_cases, slice_get_within}
use Rattle.vcode_base.specs.declared.limits.TheConstants.{MOST_BUDGET, MOST_JOBS}
use Rattle.job_steps.specs.declared.event.Event.{Event}
use Rattle.job_steps.specs.declared.event.Event.TheVariants.{Admit, Begin, Finish, Recall, Collect}
use Rattle.job_steps.specs.EventLaws.{IsVerified, IsRunning, HasBegun, StandsOnRun}
use Rattle.job_steps.specs.EventLaws.{EarlyEndsEnd, OthersAreReady, EventsKeep, SumsFollowStandings, UseIsWithin}
use Rattle.job_steps.specs.Events.{next_standing, job_of, next_standing_of, with_next}
use Rattle.job_steps.specs.Events.{standing_after_begin, standing_after, after_event, after_events, recalled_standing}
use Rattle.job_steps.specs.Reached.{Reaches, EndIsOwn}
use Rattle.job_steps.specs.Runs.{state_after}
use Rattle.job_steps.specs.Standings.{Standing, Waiting, Live, InFlight, Ended, Collected, of_job, with_standing}
use Rattle.job_steps.specs.Standings.{sum_over, executed_at}
use Rattle.job_steps.specs.States.{Task}
use Rattle.job_slots.specs.declared.answer.Finished.{Finished}
use Rattle.job_machine.specs.Machines.{MachineState, queue_of, machine_after, told, told_by}
use Rattle.job_machine.specs.Machines.{after_finished, Leads}
use Rattle.step_scheduler.specs.Tallies.{executed_sum, IsKept, OthersCountNothing, RaisesByItsJob}
use Rattle.step_scheduler.specs.Tallies.{FinishesRaise, RecallsCountNothing, EventsKeepCounts, CountsAreWithin}
use Rattle.step_scheduler.specs.Tallies.{Continues, is_finish}

-- ---- one job

of_with : (job : ℕ) (standings : List Standing) (old new : Standing) → of_job job standings ≡ Some old →
    of_job job (with_standing job new standings) ≡ Some new
of_with zero standings old new e = absurd (none-some old e)
of_with (suc i) [] old new e = absurd (none-some old e)
of_with (suc zero) (s ∷ standings) old new e = refl
of_with (suc (suc i)) (s ∷ standings) old new e = of_with (suc i) standings old new e

-- a list of the same length has a task for each standing
has_task : (tasks : List Task) (standings : List Standing) (job : ℕ) (s : Standing) →
    length standings ≡ length tasks → of_job job standings ≡ Some s → of_job job tasks ≡ None → ⊥
has_task tasks standings job s same e t = grind (arith, slice_get_cases, slice_get_within)

verified_of : (tasks : List Task) → All IsVerified tasks → (job : ℕ) (task : Task) → of_job job tasks ≡ Some task →
    IsVerified task
verified_of tasks all zero task t = absurd (none-some task t)
verified_of tasks all (suc i) task t =
    subst IsVerified (get_or_from_slice_get tasks i task task t) (all i task (slice_get_within tasks i task t))

begin_keeps : EarlyEndsEnd → (task : Task) → IsVerified task → (n : ℕ) (run : IsRunning task n) →
    executed_at task (standing_after_begin task n (state_after task n)) ≡ n
begin_keeps early task v n run = grind (arith, run.running, early v.0 task v.1 n run.state)

-- an event other than a finish leaves the count of its job alone
keeps : EarlyEndsEnd → (event : Event) → is_finish event ≡ false → (task : Task) → IsVerified task →
    (old new : Standing) → StandsOnRun task old → next_standing event task old ≡ Some new →
    executed_at task new ≡ executed_at task old
keeps early event other task v old new on is = grind (arith, begin_keeps)

-- the count of a job after the finish of the step that follows n instructions is at least as great
counts_from : Reaches → OthersAreReady → EndIsOwn → (task : Task) → IsVerified task → (n : ℕ) → HasBegun task n →
    n ≤ executed_at task (standing_after (n + 1) (state_after task (n + 1)))
counts_from reaches others own task v n begun =
    let s = begun.run.state in
    let ready = (others v.0 task v.1 n s begun.run.running begun.goes_on).next in
    let there = (reaches v.0 task v.1 n s begun.run.running).count in
    grind (arith, own task (n + 1))

-- ---- one event

-- an event that leaves its job's count alone leaves the sum alone
same_sum : SumsFollowStandings → (event : Event) (m : MachineState) →
    ((job : ℕ) (task : Task) (old new : Standing) → of_job job m.tasks ≡ Some task →
    of_job job m.standings ≡ Some old → next_standing event task old ≡ Some new →
    executed_at task new ≡ executed_at task old) →
    (j : Option ℕ) →
    sum_over executed_at m.tasks
    (with_next event j (next_standing_of m.tasks event m.standings j) (queue_of m)).standings
    ≡ executed_sum m
same_sum sums event m keep j = grind (arith, sums, keep)

pub others_count_nothing : SumsFollowStandings → EarlyEndsEnd → OthersCountNothing
unfolding after_event
others_count_nothing sums early m kept event other =
    same_sum sums event m (λ job task old new t s.
    keeps early event other task (verified_of m.tasks kept.verified job task t) old new
    (kept.kept.on_run job task old t s)) (job_of m.region m.tasks event (queue_of m))

finish_raises : SumsFollowStandings → Reaches → OthersAreReady → EndIsOwn → (m : MachineState) → IsKept m →
    (job step : ℕ) → of_job job m.standings ≡ Some (InFlight step) → (t : Option Task) → of_job job m.tasks ≡ t →
    RaisesByItsJob m job step
unfolding after_event
finish_raises sums reaches others own m kept job step s None t =
    absurd (has_task m.tasks m.standings job (InFlight step) kept.kept.same_length s t)
finish_raises sums reaches others own m kept job step s (Some task) t =
    let new = standing_after (step + 1) (state_after task (step + 1)) in
    let sum = sums executed_at m.tasks m.standings job task (InFlight step) new t s in
    let count = of_with job m.standings (InFlight step) new s in
    record {
      count = executed_at task new;
      count_is = grind (arith, count);
      no_fewer =
          counts_from reaches others own task (verified_of m.tasks kept.verified job task t) step
          (kept.kept.on_run job task (InFlight step) t s);
      sum_is = grind (arith, sum);
    }

pub finishes_raise : SumsFollowStandings → Reaches → OthersAreReady → EndIsOwn → FinishesRaise
finishes_raise sums reaches others own m kept job step s =
    finish_raises sums reaches others own m kept job step s (of_job job m.tasks) refl

-- how many instructions a job has executed, and 0 if there is no such job
abbrev count_in : ℕ → MachineState → ℕ
count_in job m = unwrap_or (told executed_at job m) 0

-- the sum rises by what the count of one job rises by
pub record RaisedBy (job : ℕ) (old new : MachineState) : Type 0 where
  pub no_fewer : count_in job old ≤ count_in job new
  pub sum_is : executed_sum new + count_in job old ≡ executed_sum old + count_in job new

raised_in : FinishesRaise → (job : ℕ) (m : MachineState) → IsKept m → (s : Option Standing) →
    of_job job m.standings ≡ s → RaisedBy job m (machine_after (Finish job) m)
unfolding after_event
raised_in law job m kept None s = record { no_fewer = grind arith; sum_is = grind arith }
raised_in law job m kept (Some Waiting) s = record { no_fewer = grind arith; sum_is = grind arith }
raised_in law job m kept (Some (Live n)) s = record { no_fewer = grind arith; sum_is = grind arith }
raised_in law job m kept (Some (InFlight n)) s =
    let r = law m kept job n s in
    record { no_fewer = grind (arith, r.count_is, r.no_fewer); sum_is = grind (arith, r.count_is, r.sum_is) }
raised_in law job m kept (Some Ended) s = record { no_fewer = grind arith; sum_is = grind arith }
raised_in law job m kept (Some Collected) s = record { no_fewer = grind arith; sum_is = grind arith }

-- a finish, whatever it answers
pub raises : FinishesRaise → (job : ℕ) (old new : MachineState) → IsKept old → (answer : Finished) →
    new ≡ after_finished answer old (machine_after (Finish job) old) → RaisedBy job old new
raises law job old new kept answer is =
    let r = raised_in law job old kept (of_job job old.standings) refl in
    record { no_fewer = grind (arith, r.no_fewer); sum_is = grind (arith, r.sum_is) }

-- ---- events, one after another

never_lowers : OthersCountNothing → FinishesRaise → (m : MachineState) → IsKept m → (event : Event) →
    executed_sum m ≤ executed_sum (machine_after event m)
never_lowers others law m kept Admit = omega (arith, others m kept Admit refl)
never_lowers others law m kept (Begin job) = omega (arith, others m kept (Begin job) refl)
never_lowers others law m kept (Finish job) =
    let r = raised_in law job m kept (of_job job m.standings) refl in omega (arith, r.no_fewer, r.sum_is)
never_lowers others law m kept (Recall job) = omega (arith, others m kept (Recall job) refl)
never_lowers others law m kept (Collect job) = omega (arith, others m kept (Collect job) refl)

all_keep : OthersCountNothing → FinishesRaise → EventsKeep → (events : List Event) (m : MachineState) → IsKept m →
    executed_sum m ≤ sum_over executed_at m.tasks (after_events m.region m.tasks events (queue_of m)).standings
all_keep others law keep [] m kept = omega arith
all_keep others law keep (event ∷ events) m kept =
    let still = keep m.region m.tasks kept.verified (event ∷ []) (queue_of m) kept.kept in
    let rest = all_keep others law keep events (machine_after event m)
    (record { verified = kept.verified; kept = still }) in
    omega (arith, never_lowers others law m kept event, rest)

pub events_keep_counts : SumsFollowStandings → EarlyEndsEnd → Reaches → OthersAreReady → EndIsOwn → EventsKeep →
    EventsKeepCounts
events_keep_counts sums early reaches others own keep old new kept leads =
    let none = others_count_nothing sums early in
    let there = all_keep none (finishes_raise sums reaches others own) keep leads.2.0 old kept in
    let same : sum_over executed_at new.tasks new.standings
    ≡ sum_over executed_at old.tasks (after_events old.region old.tasks leads.2.0 (queue_of old)).standings =
    λ i. sum_over executed_at (leads.1 i) (sym leads.2.1 i).standings in
    omega (arith, there, same)

-- ---- recalls

sum_recalled : (tasks : List Task) (standings : List Standing) →
    sum_over executed_at tasks (map recalled_standing standings) ≡ sum_over executed_at tasks standings
sum_recalled [] standings = refl
sum_recalled (t ∷ tasks) standings = grind (arith, sum_recalled tasks)

pub recalls_count_nothing : RecallsCountNothing
recalls_count_nothing m = sum_recalled m.tasks m.standings

-- ---- the sum, job by job

-- one more job adds its count, if there is one
next_at : (tasks : List Task) (standings : List Standing) (place : ℕ) →
    sum_over executed_at (take (suc place) tasks) (take (suc place) standings)
    ≡ sum_over executed_at (take place tasks) (take place standings)
    + unwrap_or (told_by executed_at (slice_get tasks place) (slice_get standings place)) 0
next_at [] standings zero = refl
next_at [] standings (suc i) = refl
next_at (t ∷ tasks) [] zero = refl
next_at (t ∷ tasks) [] (suc i) = next_none t tasks i
  where
    next_none : (t : Task) (tasks : List Task) (i : ℕ) →
        0 ≡ 0 + unwrap_or (told_by executed_at (slice_get tasks i) None) 0
    next_none t [] i = refl
    next_none t (x ∷ tasks) zero = refl
    next_none t (x ∷ tasks) (suc i) = next_none t tasks i
next_at (t ∷ tasks) (s ∷ standings) zero = omega arith
next_at (t ∷ tasks) (s ∷ standings) (suc i) = let rest = next_at tasks standings i in omega (arith, rest)

next_sum : (m : MachineState) (place : ℕ) →
    sum_over executed_at (take (place + 1) m.tasks) (take (place + 1) m.standings)
    ≡ sum_over executed_at (take place m.tasks) (take place m.standings)
    + unwrap_or (told executed_at (place + 1) m) 0
next_sum m place =
    subst (λ n. sum_over executed_at (take n m.tasks) (take n m.standings)
    ≡ sum_over executed_at (take place m.tasks) (take place m.standings) + unwrap_or (told executed_at n m) 0)
    (sym (add-one place)) (next_at m.tasks m.standings place)

-- some of the jobs have executed no more than all
part_within : (tasks : List Task) (standings : List Standing) (place : ℕ) →
    sum_over executed_at (take place tasks) (take place standings) ≤ sum_over executed_at tasks standings
part_within [] standings zero = omega arith
part_within [] standings (suc i) = omega arith
part_within (t ∷ tasks) [] zero = omega arith
part_within (t ∷ tasks) [] (suc i) = omega arith
part_within (t ∷ tasks) (s ∷ standings) zero = omega arith
part_within (t ∷ tasks) (s ∷ standings) (suc i) = let rest = part_within tasks standings i in omega (arith, rest)

-- the sum with one job more, and what it is at most
pub record Adds (m : MachineState) (place sum : ℕ) (executed : Option ℕ) : Type 0 where
  pub sum_is :
      sum + unwrap_or executed 0 ≡ sum_over executed_at (take (place + 1) m.tasks) (take (place + 1) m.standings)
  pub within : sum + unwrap_or executed 0 ≤ MOST_JOBS * MOST_BUDGET

pub adds : CountsAreWithin → (m : MachineState) → IsKept m → length m.tasks ≤ MOST_JOBS → (place sum : ℕ)
    (executed : Option ℕ) → sum ≡ sum_over executed_at (take place m.tasks) (take place m.standings) →
    executed ≡ told executed_at (place + 1) m → Adds m place sum executed
adds law m kept few place sum executed sum_is executed_is =
    let next = next_sum m place in
    let same : unwrap_or executed 0 ≡ unwrap_or (told executed_at (place + 1) m) 0 =
    ap (λ o. unwrap_or o 0) executed_is in
    let part = part_within m.tasks m.standings (place + 1) in
    let all = law m kept in
    record { sum_is = omega (arith, sum_is, same, next); within = omega (arith, sum_is, same, next, part, all, few) }

within_each : (tasks : List Task) (standings : List Standing) → ((i : ℕ) (task : Task) (s : Standing) →
    slice_get tasks i ≡ Some task → slice_get standings i ≡ Some s → executed_at task s ≤ MOST_BUDGET) →
    sum_over executed_at tasks standings ≤ length tasks * MOST_BUDGET
within_each [] standings each = omega arith
within_each (t ∷ tasks) [] each = omega arith
within_each (t ∷ tasks) (s ∷ standings) each =
    omega (arith, each 0 t s refl refl, within_each tasks standings (λ i. each (suc i)))

pub counts_are_within : UseIsWithin → CountsAreWithin
counts_are_within uses m kept =
    within_each m.tasks m.standings (λ i task s t s_is.
    let v = verified_of m.tasks kept.verified (suc i) task t in
    let within = uses task v s (kept.kept.on_run (suc i) task s t s_is) in
    omega (arith, within.budget, task.limits.budget_in_range))

pub ruleset of_counts = (
  others_count_nothing,
  finishes_raise,
  recalls_count_nothing,
  events_keep_counts,
  counts_are_within,
)

-- ---- the same jobs

pub continues_none : (m : MachineState) → Continues m m
continues_none m = record { rule = refl; tasks = refl; no_less = omega arith }

pub continues_on : (old between new : MachineState) → Continues old between → Continues between new →
    Continues old new
continues_on old between new first second = grind arith

-- after an event that isn't a finish
pub continues_after : OthersCountNothing → (event : Event) → is_finish event ≡ false → (old new : MachineState) →
    IsKept old → new ≡ machine_after event old → Continues old new
continues_after others event other old new kept is =
    rw is (record { rule = refl; tasks = refl; no_less = omega (arith, others old kept event other) })

-- after a finish, whatever it answers
pub continues_finished : FinishesRaise → (job : ℕ) (old new : MachineState) → IsKept old → (answer : Finished) →
    new ≡ after_finished answer old (machine_after (Finish job) old) → Continues old new
continues_finished law job old new kept answer is =
    let r = raises law job old new kept answer is in
    record { rule = grind arith; tasks = grind arith; no_less = omega (arith, r.no_fewer, r.sum_is) }

-- after events
pub continues_by : EventsKeepCounts → (old new : MachineState) → IsKept old → Leads old new → Continues old new
continues_by keep old new kept leads =
    record { rule = leads.3; tasks = leads.1; no_less = keep old new kept leads }

-- a desk that serves each job goes on doing so
pub words_on : (old new : MachineState) (words desk : ℕ) → Continues old new → desk ≡ words →
    All (λ task. task.limits.words ≤ words) old.tasks → All (λ task. task.limits.words ≤ desk) new.tasks
words_on old new words desk same desk_is all = rw desk_is (rw same.tasks all)
