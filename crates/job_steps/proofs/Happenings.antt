-- What an open event changes.
use Rattle.std.proofs.Common.{rules, arith, ◌≡◌, ℕ, ◌+◌, true, false, List, Option, Some, None, is_some, refl, sym, ap}
use Rattle.std.proofs.lemmas.Option.{none-some, same_Some}
use Rattle.job_steps.specs.declared.event.Event.{Event}
use Rattle.job_steps.specs.declared.event.Event.TheVariants.{Admit, Begin, Finish, Recall, Collect}
use Rattle.job_steps.specs.EventLaws.{ChangesItsJob}
use Rattle.job_steps.specs.Events.{standing_after_begin, standing_after, next_standing, named_job, job_of}
use Rattle.job_steps.specs.Events.{next_standing_in, next_standing_of, is_open, with_next, moved_queue, passes_after}
use Rattle.job_steps.specs.Events.{after_event}
use Rattle.job_steps.specs.Runs.{state_after}
use Rattle.job_steps.specs.Standings.{Standing, Waiting, Live, InFlight, Ended, Collected, Queue, of_job, with_standing}
use Rattle.job_steps.specs.States.{Task}

-- ---- one job

-- the ways in which an open event changes the standing of its job
pub data Changes (task : Task) (event : Event) (old new : Standing) : Type 0 where
  Admits : event ≡ Admit → old ≡ Waiting → new ≡ Live 0 → Changes task event old new
  Begins : (job n : ℕ) → event ≡ Begin job → old ≡ Live n →
      new ≡ standing_after_begin task n (state_after task n) → Changes task event old new
  Finishes : (job n : ℕ) → event ≡ Finish job → old ≡ InFlight n →
      new ≡ standing_after (n + 1) (state_after task (n + 1)) → Changes task event old new
  Recalls : (job n : ℕ) → event ≡ Recall job → old ≡ InFlight n → new ≡ Live n → Changes task event old new
  Collects : (job : ℕ) → event ≡ Collect job → old ≡ Ended → new ≡ Collected → Changes task event old new

pub changes : (event : Event) (task : Task) (old new : Standing) → next_standing event task old ≡ Some new →
    Changes task event old new
changes Admit task Waiting new e = Admits refl refl (sym (same_Some (Live 0) new e))
changes (Begin job) task (Live n) new e = Begins job n refl refl (sym (same_Some _ new e))
changes (Finish job) task (InFlight n) new e = Finishes job n refl refl (sym (same_Some _ new e))
changes (Recall job) task (InFlight n) new e = Recalls job n refl refl (sym (same_Some (Live n) new e))
changes (Collect job) task Ended new e = Collects job refl refl (sym (same_Some Collected new e))
changes event task old new e = absurd (none-some new e)

-- ---- all jobs

pub same_queue : (one other : Queue) → one.standings ≡ other.standings → one.passes ≡ other.passes → one ≡ other
same_queue one other standings passes = λ i. record { standings = standings i; passes = passes i }

-- what is open and what comes, by the event's job and its next standing
pub record Comes (region : ℕ) (tasks : List Task) (event : Event) (queue : Queue) (o : Option ℕ)
    (next : Option Standing) : Type 0 where
  pub can : is_open region tasks event queue ≡ is_some next
  pub after : after_event region tasks event queue ≡ with_next event o next queue

-- an open event, with its job
pub record Opens (region : ℕ) (tasks : List Task) (event : Event) (queue : Queue) : Type 0 where
  pub job : ℕ
  pub task : Task
  pub old : Standing
  pub new : Standing
  pub job_is : job_of region tasks event queue ≡ Some job
  pub task_is : of_job job tasks ≡ Some task
  pub old_is : of_job job queue.standings ≡ Some old
  pub new_is : next_standing event task old ≡ Some new
  pub after : (after_event region tasks event queue).standings ≡ with_standing job new queue.standings
  pub passes : (after_event region tasks event queue).passes ≡ passes_after event job queue

pub data Happens (region : ℕ) (tasks : List Task) (event : Event) (queue : Queue) : Type 0 where
  Passed : is_open region tasks event queue ≡ false → after_event region tasks event queue ≡ queue →
      Happens region tasks event queue
  Opened : is_open region tasks event queue ≡ true → Opens region tasks event queue →
      Happens region tasks event queue

pub comes : (region : ℕ) (tasks : List Task) (event : Event) (queue : Queue) (o : Option ℕ) (next : Option Standing) →
    job_of region tasks event queue ≡ o → next_standing_of tasks event queue.standings o ≡ next →
    Comes region tasks event queue o next
unfolding is_open after_event
comes region tasks event queue o next job_is next_is = grind arith

module _ (region : ℕ) (tasks : List Task) (event : Event) (queue : Queue) where
  module _ (job : ℕ) (job_is : job_of region tasks event queue ≡ Some job) where
    happens_in : (new : Standing) → after_event region tasks event queue ≡ moved_queue event job new queue →
        (task : Option Task) → of_job job tasks ≡ task → (old : Option Standing) → of_job job queue.standings ≡ old →
        next_standing_in event task old ≡ Some new → Opens region tasks event queue
    happens_in new after (Some task) task_is (Some old) old_is e = record {
      job = job;
      task = task;
      old = old;
      new = new;
      job_is = job_is;
      task_is = task_is;
      old_is = old_is;
      new_is = e;
      after = ap (λ (q : Queue). q.standings) after;
      passes = ap (λ (q : Queue). q.passes) after;
    }
    happens_in new after task task_is old old_is e = absurd (none-some new e)

    happens_next : (next : Option Standing) → next_standing_of tasks event queue.standings (Some job) ≡ next →
        Happens region tasks event queue
    happens_next None next_is = grind (arith, comes)
    happens_next (Some new) next_is =
        let c = comes region tasks event queue (Some job) (Some new) job_is next_is in
        Opened c.can (happens_in new c.after _ refl _ refl next_is)

  happens_job : (o : Option ℕ) → job_of region tasks event queue ≡ o → Happens region tasks event queue
  happens_job None job_is = grind (arith, comes)
  happens_job (Some job) job_is = happens_next job job_is _ refl

  pub happens : Happens region tasks event queue
  happens = happens_job _ refl

  pub opens : is_open region tasks event queue ≡ true → Opens region tasks event queue
  opens can = grind (arith, happens)

  -- an event is open if its job has a next standing by it
  pub open_where : (job : ℕ) (task : Task) (old new : Standing) → job_of region tasks event queue ≡ Some job →
      of_job job tasks ≡ Some task → of_job job queue.standings ≡ Some old → next_standing event task old ≡ Some new →
      is_open region tasks event queue ≡ true
  open_where job task old new job_is task_is old_is new_is = grind (arith, comes)

  -- the job that an event names is its job
  pub named : (job : ℕ) → named_job event ≡ Some job → job_of region tasks event queue ≡ Some job
  named job e = grind arith

  -- ---- an event by its job

  pub changes_its_job : (job : ℕ) (task : Task) (old : Standing) → job_of region tasks event queue ≡ Some job →
      of_job job tasks ≡ Some task → of_job job queue.standings ≡ Some old →
      ChangesItsJob region tasks event queue job task old
  unfolding is_open after_event
  changes_its_job job task old job_is task_is old_is = search (rules)

  pub closed_changes_nothing : is_open region tasks event queue ≡ false →
      after_event region tasks event queue ≡ queue
  closed_changes_nothing closed = grind (arith, happens)

  pub missing_is_closed : (job : ℕ) → named_job event ≡ Some job → of_job job queue.standings ≡ None →
      is_open region tasks event queue ≡ false
  missing_is_closed job e missing = grind (arith, comes)
