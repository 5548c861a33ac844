-- The events of a list of jobs: which are open, and the standings of the jobs after them.
use Rattle.std.specs.Prelude.{◌≡◌, ℕ, zero, suc, ◌+◌, ◌-◌, ◌*◌, ◌==◌, Bool, true, false, if◌then◌else◌, List, []}
use Rattle.std.specs.Prelude.{◌∷◌, ◌++◌, map, Option, Some, None, is_some}
use Rattle.vcode_base.specs.declared.outcome.Outcome.TheVariants.{Budget}
use Rattle.job_steps.specs.declared.event.Event.{Event}
use Rattle.job_steps.specs.declared.event.Event.TheVariants.{Admit, Begin, Finish, Recall, Collect}
use Rattle.job_steps.specs.Runs.{state_after}
use Rattle.job_steps.specs.Standings.{Standing, Waiting, Live, InFlight, Ended, Collected, Queue, of_job}
use Rattle.job_steps.specs.Standings.{with_standing, sum_over, admission, passes_before}
use Rattle.job_steps.specs.States.{Task, Active, State}
use Rattle.job_steps.specs.Steps.{Ending, Progress, Running, Over, Stuck, early_ending, next_item}

-- ---- one job

abbrev pub early_end_in : Task → State → List Active → Option Ending
early_end_in task s [] = None
early_end_in task s (call ∷ outer) = early_ending task (next_item call) s

-- what ends a job before the values of its next instruction are looked at: its budget is spent, or a shape or a limit
abbrev pub early_end : Task → State → Option Ending
early_end task s = if s.executed == task.limits.budget then Some Budget else early_end_in task s s.calls

-- the standing of a job when a step has begun, by its state before that step
abbrev pub standing_after_begin : Task → ℕ → Progress → Standing
standing_after_begin task n (Running s) = if is_some (early_end task s) then Ended else InFlight n
standing_after_begin task n (Over ending executed peak) = Ended
standing_after_begin task n Stuck = Ended

-- the standing of a job after n finished steps
abbrev pub standing_after : ℕ → Progress → Standing
standing_after n (Running s) = Live n
standing_after n (Over ending executed peak) = Ended
standing_after n Stuck = Ended

-- the standing in which an event leaves its job, if it is open
abbrev pub next_standing : Event → Task → Standing → Option Standing
next_standing Admit task Waiting = Some (Live 0)
next_standing (Begin job) task (Live n) = Some (standing_after_begin task n (state_after task n))
next_standing (Finish job) task (InFlight n) = Some (standing_after (n + 1) (state_after task (n + 1)))
next_standing (Recall job) task (InFlight n) = Some (Live n)
next_standing (Collect job) task Ended = Some Collected
next_standing event task standing = None

-- ---- all jobs

-- the job that an event names
abbrev pub named_job : Event → Option ℕ
named_job Admit = None
named_job (Begin job) = Some job
named_job (Finish job) = Some job
named_job (Recall job) = Some job
named_job (Collect job) = Some job

-- the job that an event is of: the one that it names, or the one that is admitted next
abbrev pub job_of : ℕ → List Task → Event → Queue → Option ℕ
job_of region tasks Admit queue = admission region tasks queue
job_of region tasks event queue = named_job event

abbrev pub next_standing_in : Event → Option Task → Option Standing → Option Standing
next_standing_in event None standing = None
next_standing_in event (Some task) None = None
next_standing_in event (Some task) (Some standing) = next_standing event task standing

-- the standing in which an event leaves the job of this number
abbrev pub next_standing_of : List Task → Event → List Standing → Option ℕ → Option Standing
next_standing_of tasks event standings None = None
next_standing_of tasks event standings (Some job) =
    next_standing_in event (of_job job tasks) (of_job job standings)

-- whether an event can happen
unfoldable pub is_open : ℕ → List Task → Event → Queue → Bool
is_open region tasks event queue =
    is_some (next_standing_of tasks event queue.standings (job_of region tasks event queue))

-- the passes after an event of this job: an admission passes by the jobs that wait before it
abbrev pub passes_after : Event → ℕ → Queue → List ℕ
passes_after Admit (suc place) queue = passes_before place queue.standings queue.passes
passes_after event job queue = queue.passes

-- the queue once the event has moved the job on
abbrev pub moved_queue : Event → ℕ → Standing → Queue → Queue
moved_queue event job standing queue = record {
  standings = with_standing job standing queue.standings;
  passes = passes_after event job queue;
}

abbrev pub with_next : Event → Option ℕ → Option Standing → Queue → Queue
with_next event None standing queue = queue
with_next event (Some job) None queue = queue
with_next event (Some job) (Some standing) queue = moved_queue event job standing queue

-- the queue after an event; an event that isn't open changes nothing
unfoldable pub after_event : ℕ → List Task → Event → Queue → Queue
after_event region tasks event queue =
    with_next event (job_of region tasks event queue)
    (next_standing_of tasks event queue.standings (job_of region tasks event queue)) queue

-- the queue after events, one after another
abbrev pub after_events : ℕ → List Task → List Event → Queue → Queue
after_events region tasks [] queue = queue
after_events region tasks (event ∷ events) queue = after_events region tasks events
    (after_event region tasks event queue)

-- a step that has begun is given up
abbrev pub recalled_standing : Standing → Standing
recalled_standing Waiting = Waiting
recalled_standing (Live n) = Live n
recalled_standing (InFlight n) = Live n
recalled_standing Ended = Ended
recalled_standing Collected = Collected

-- the standings with every step given up that has begun
abbrev pub recalled_standings : List Standing → List Standing
recalled_standings standings = map recalled_standing standings

-- the queue with every step given up that has begun
abbrev pub recalled_queue : Queue → Queue
recalled_queue queue = record { standings = recalled_standings queue.standings; passes = queue.passes }

-- a recall of each of the first n jobs, in order
abbrev pub all_recalls : ℕ → List Event
all_recalls zero = []
all_recalls (suc n) = all_recalls n ++ Recall (suc n) ∷ []

-- some events lead from one queue to another
abbrev pub LeadTo : ℕ → List Task → Queue → Queue → Type 0
LeadTo region tasks old new = (events : List Event) × (after_events region tasks events old ≡ new)

-- ---- how many events

abbrev pub is_recall : Event → Bool
is_recall (Recall job) = true
is_recall event = false

-- each of these events is open when it comes
abbrev pub AreOpen : ℕ → List Task → List Event → Queue → Type 0
AreOpen region tasks [] queue = Unit {0}
AreOpen region tasks (event ∷ events) queue =
    (is_open region tasks event queue ≡ true) × AreOpen region tasks events (after_event region tasks event queue)

abbrev pub is_job : ℕ → Option ℕ → Bool
is_job job None = false
is_job job (Some other) = other == job

-- how many of these events are of a job, one after another
abbrev pub event_count : ℕ → List Task → List Event → Queue → ℕ → ℕ
event_count region tasks [] queue job = 0
event_count region tasks (event ∷ events) queue job =
    (if is_job job (job_of region tasks event queue) then 1 else 0)
    + event_count region tasks events (after_event region tasks event queue) job

-- the most events without recalls that a job has from here on: each step begins and is finished, one begins when the
-- budget is spent, and the job is admitted and collected
abbrev pub events_left : Task → Standing → ℕ
events_left task Waiting = 2 * task.limits.budget + 3
events_left task (Live n) = 2 * (task.limits.budget - n) + 2
events_left task (InFlight n) = 2 * (task.limits.budget - n) + 1
events_left task Ended = 1
events_left task Collected = 0

-- of all jobs together
abbrev pub all_events_left : List Task → List Standing → ℕ
all_events_left tasks standings = sum_over events_left tasks standings
