-- What holds of jobs under events, whatever their order.
use Rattle.std.specs.Prelude.{◌≡◌, ◌≢◌, ◌⊎◌, ◌↔◌, ℕ, ◌+◌, ◌*◌, ◌<◌, ◌≤◌, true, false, List, ◌∷◌, ◌++◌, length, All}
use Rattle.std.specs.Prelude.{suc, Option, Some, None, is_some}
use Rattle.vcode_base.specs.declared.limits.TheConstants.{MOST_PASSES}
use Rattle.vcode_base.specs.Instructions.{op_of}
use Rattle.vcode_base.specs.Meaning.{value_fault}
use Rattle.signatures.specs.Signatures.{Signature}
use Rattle.job_steps.specs.declared.event.Event.{Event}
use Rattle.job_steps.specs.declared.event.Event.TheVariants.{Admit, Begin, Recall}
use Rattle.job_steps.specs.Events.{early_end, next_standing, named_job, job_of, is_open, moved_queue, after_event}
use Rattle.job_steps.specs.Events.{after_events}
use Rattle.job_steps.specs.Events.{recalled_queue, all_recalls, LeadTo, is_recall, AreOpen, event_count}
use Rattle.job_steps.specs.Events.{all_events_left}
use Rattle.job_steps.specs.Reached.{IsVerifiedTask, IsVerifiedBySome, IsWithin}
use Rattle.job_steps.specs.Runs.{state_after, outcome, executed_count, peak}
use Rattle.job_steps.specs.Standings.{Standing, Waiting, Live, InFlight, Ended, Collected, Queue, of_job}
use Rattle.job_steps.specs.Standings.{with_standing, AreFew, first_queue, reserved_words, granted_words, admission}
use Rattle.job_steps.specs.Standings.{passes_before, executed_at, peak_at, held_by, used_words, sum_over}
use Rattle.job_steps.specs.States.{Task, Active, State}
use Rattle.job_steps.specs.Steps.{Ending, Running, Over, next_item, sources_of, question_of, flag_of, can_run}
use Rattle.job_steps.specs.Steps.{calls_after, progress_by}

-- ---- one step in two halves

-- an end before the values are looked at is the job's end
pub record IsEndAt (task : Task) (n : ℕ) (s : State) (ending : Ending) : Type 0 where
  pub over : state_after task (n + 1) ≡ Over ending n s.peak
  pub outcome_is : outcome task ≡ ending
  pub executed_is : executed_count task ≡ n
  pub peak_is : peak task ≡ s.peak

abbrev pub EarlyEndsEnd : Type 0
EarlyEndsEnd =
    (signatures : List Signature) (task : Task) → IsVerifiedTask signatures task →
    (n : ℕ) (s : State) (ending : Ending) → state_after task n ≡ Running s → early_end task s ≡ Some ending →
    IsEndAt task n s ending

-- the next instruction is decided by its values alone
pub record IsReady (task : Task) (n : ℕ) (s : State) : Type 0 where
  pub unspent : n < task.limits.budget
  pub call : Active
  pub outer : List Active
  pub calls : s.calls ≡ call ∷ outer
  pub runs : can_run task.verified (next_item call).item s.stack ≡ true
  pub next :
      state_after task (n + 1) ≡ progress_by task.rule
      (value_fault (op_of (next_item call).item) (sources_of (next_item call).item s.stack)) (next_item call) s
      (calls_after task.verified (flag_of (question_of (next_item call).item s.stack)) call.rest call.ret outer)

abbrev pub OthersAreReady : Type 0
OthersAreReady =
    (signatures : List Signature) (task : Task) → IsVerifiedTask signatures task →
    (n : ℕ) (s : State) → state_after task n ≡ Running s → early_end task s ≡ None → IsReady task n s

-- ---- one event

-- An event of a job is decided by the job's task and standing, and of the standings changes that one alone. An
-- admission
-- passes by the jobs that wait before its own.
pub record ChangesItsJob (region : ℕ) (tasks : List Task) (event : Event) (queue : Queue) (job : ℕ) (task : Task)
    (old : Standing) : Type 0 where
  pub open_where : is_open region tasks event queue ≡ is_some (next_standing event task old)
  pub passed : next_standing event task old ≡ None → after_event region tasks event queue ≡ queue
  pub changed : (new : Standing) → next_standing event task old ≡ Some new →
      after_event region tasks event queue ≡ moved_queue event job new queue

abbrev pub EventsChangeTheirJob : Type 0
EventsChangeTheirJob =
    (region : ℕ) (tasks : List Task) (event : Event) (queue : Queue) (job : ℕ) (task : Task) (old : Standing) →
    job_of region tasks event queue ≡ Some job → of_job job tasks ≡ Some task →
    of_job job queue.standings ≡ Some old → ChangesItsJob region tasks event queue job task old

-- an event that isn't open, as is one of a job that there isn't, changes nothing
abbrev pub ClosedChangeNothing : Type 0
ClosedChangeNothing =
    (region : ℕ) (tasks : List Task) (event : Event) (queue : Queue) →
    is_open region tasks event queue ≡ false → after_event region tasks event queue ≡ queue

-- there is no such job
abbrev pub MissingAreClosed : Type 0
MissingAreClosed =
    (region : ℕ) (tasks : List Task) (event : Event) (queue : Queue) (job : ℕ) →
    named_job event ≡ Some job → of_job job queue.standings ≡ None → is_open region tasks event queue ≡ false

-- the job that is admitted next waits, and has room beside what is granted
pub record HasRoom (region : ℕ) (tasks : List Task) (standings : List Standing) (job : ℕ) : Type 0 where
  pub task : Task
  pub task_is : of_job job tasks ≡ Some task
  pub waits : of_job job standings ≡ Some Waiting
  pub room : granted_words tasks standings + task.limits.words ≤ region

abbrev pub AdmittedHaveRoom : Type 0
AdmittedHaveRoom =
    (region : ℕ) (tasks : List Task) (queue : Queue) (job : ℕ) →
    admission region tasks queue ≡ Some job → HasRoom region tasks queue.standings job

-- ---- who is admitted

-- a waiting job that another may pass by: it doesn't fit beside what is granted, and was passed by fewer times than the
-- most
pub record MayBePassed (region : ℕ) (tasks : List Task) (queue : Queue) (job : ℕ) (task : Task) : Type 0 where
  pub no_room : region < granted_words tasks queue.standings + task.limits.words
  pub few : (count : ℕ) → of_job job queue.passes ≡ Some count → count < MOST_PASSES

-- the job waits and fits, and each job that waits before it may be passed by
pub record IsNext (region : ℕ) (tasks : List Task) (queue : Queue) (job : ℕ) : Type 0 where
  pub room : HasRoom region tasks queue.standings job
  pub before : (earlier : ℕ) (task : Task) → earlier < job → of_job earlier tasks ≡ Some task →
      of_job earlier queue.standings ≡ Some Waiting → MayBePassed region tasks queue earlier task

-- exactly such a job is admitted next
abbrev pub AdmissionsAreNext : Type 0
AdmissionsAreNext =
    (region : ℕ) (tasks : List Task) (queue : Queue) (job : ℕ) →
    length queue.standings ≡ length tasks → length queue.passes ≡ length tasks →
    (admission region tasks queue ≡ Some job) ↔ IsNext region tasks queue job

-- an admission of this job passes by another one once more, if that waits before it, and else not
pub record PassesBy (job other : ℕ) (standing : Standing) (before after : Option ℕ) : Type 0 where
  pub once_more : other < job → standing ≡ Waiting → (count : ℕ) → before ≡ Some count → after ≡ Some (count + 1)
  pub at_or_after : job ≤ other → after ≡ before
  pub not_waiting : standing ≢ Waiting → after ≡ before

abbrev pub AdmissionsPassThoseBefore : Type 0
AdmissionsPassThoseBefore =
    (region : ℕ) (tasks : List Task) (queue : Queue) (job : ℕ) → admission region tasks queue ≡ Some job →
    (other : ℕ) (standing : Standing) → of_job other queue.standings ≡ Some standing →
    PassesBy job other standing (of_job other queue.passes)
    (of_job other (after_event region tasks Admit queue).passes)

-- ---- who is passed by

-- an event other than an admission passes by nobody
abbrev pub OthersPassNobody : Type 0
OthersPassNobody =
    (region : ℕ) (tasks : List Task) (event : Event) (queue : Queue) → event ≢ Admit →
    (after_event region tasks event queue).passes ≡ queue.passes

-- an admission passes by each job that waits before the admitted one, once
abbrev pub AdmissionsPassOnce : Type 0
AdmissionsPassOnce =
    (region : ℕ) (tasks : List Task) (queue : Queue) (place : ℕ) → admission region tasks queue ≡ Some (suc place) →
    (after_event region tasks Admit queue).passes ≡ passes_before place queue.standings queue.passes

-- whatever the events, each job is passed by at most so often
abbrev pub PassesAreFew : Type 0
PassesAreFew =
    (region : ℕ) (tasks : List Task) (events : List Event) (queue : Queue) → AreFew queue.passes →
    AreFew (after_events region tasks events queue).passes

-- whatever the events, a job that waits no longer is passed by no more
abbrev pub PassesStay : Type 0
PassesStay =
    (region : ℕ) (tasks : List Task) (events : List Event) (queue : Queue) (job : ℕ) (standing : Standing) →
    of_job job queue.standings ≡ Some standing → standing ≢ Waiting →
    of_job job (after_events region tasks events queue).passes ≡ of_job job queue.passes

-- ---- where events lead

-- some signatures verify the task's program
abbrev pub IsVerified : Task → Type 0
IsVerified task = IsVerifiedBySome task.verified

-- after n instructions the job runs, within its budget
pub record IsRunning (task : Task) (n : ℕ) : Type 0 where
  pub state : State
  pub running : state_after task n ≡ Running state
  pub budget : n ≤ task.limits.budget

-- and a step of it has begun, since nothing ends it before its values are looked at
pub record HasBegun (task : Task) (n : ℕ) : Type 0 where
  pub run : IsRunning task n
  pub goes_on : early_end task run.state ≡ None

-- A job's standing is on its run alone. Of one that has ended this says only that its run ends within its limits, as
-- that of each verified job does; the definition of events and EndedAreOver say that it ended because its run is over.
abbrev pub StandsOnRun : Task → Standing → Type 0
StandsOnRun task Waiting = Unit {0}
StandsOnRun task (Live n) = IsRunning task n
StandsOnRun task (InFlight n) = HasBegun task n
StandsOnRun task Ended = IsWithin task
StandsOnRun task Collected = IsWithin task

-- each job is where its run alone leads, each was passed by few times, and the words that are granted are at most the
-- region
pub record AreKept (region : ℕ) (tasks : List Task) (queue : Queue) : Type 0 where
  pub same_length : length queue.standings ≡ length tasks
  pub passes_length : length queue.passes ≡ length tasks
  pub on_run : (job : ℕ) (task : Task) (standing : Standing) → of_job job tasks ≡ Some task →
      of_job job queue.standings ≡ Some standing → StandsOnRun task standing
  pub few_passes : AreFew queue.passes
  pub granted : granted_words tasks queue.standings ≤ region

abbrev pub FirstAreKept : Type 0
FirstAreKept = (region : ℕ) (tasks : List Task) → AreKept region tasks (first_queue tasks)

abbrev pub EventsKeep : Type 0
EventsKeep =
    (region : ℕ) (tasks : List Task) → All IsVerified tasks →
    (events : List Event) (queue : Queue) → AreKept region tasks queue →
    AreKept region tasks (after_events region tasks events queue)

abbrev pub RecallsKeep : Type 0
RecallsKeep =
    (region : ℕ) (tasks : List Task) (queue : Queue) → AreKept region tasks queue →
    AreKept region tasks (recalled_queue queue)

-- a job that an event leaves ended is over after one instruction more than it had executed
abbrev pub EndedAreOver : Type 0
EndedAreOver =
    (task : Task) → IsVerified task →
    (event : Event) (old : Standing) → StandsOnRun task old → next_standing event task old ≡ Some Ended →
    state_after task (executed_at task old + 1) ≡ Over (outcome task) (executed_count task) (peak task)

-- what a job has executed and needed is within its limits
pub record UsesWithin (task : Task) (standing : Standing) : Type 0 where
  pub budget : executed_at task standing ≤ task.limits.budget
  pub words : peak_at task standing ≤ task.limits.words
  pub held : held_by task standing ≤ reserved_words task standing

abbrev pub UseIsWithin : Type 0
UseIsWithin =
    (task : Task) → IsVerified task → (standing : Standing) → StandsOnRun task standing → UsesWithin task standing

-- with another standing of one job, a sum over all jobs changes by that job's number
abbrev pub SumsFollowStandings : Type 0
SumsFollowStandings =
    (number : Task → Standing → ℕ) (tasks : List Task) (standings : List Standing) (job : ℕ) (task : Task)
    (old new : Standing) → of_job job tasks ≡ Some task → of_job job standings ≡ Some old →
    sum_over number tasks (with_standing job new standings) + number task old
    ≡ sum_over number tasks standings + number task new

-- the vectors of all jobs have room in what is granted
abbrev pub UsedIsGranted : Type 0
UsedIsGranted =
    (tasks : List Task) → All IsVerified tasks → (standings : List Standing) →
    used_words tasks standings ≤ granted_words tasks standings

-- ---- events go on, and end

-- unless all jobs are collected, some event is open that is no recall
abbrev pub EventsGoOn : Type 0
EventsGoOn =
    (region : ℕ) (tasks : List Task) → All (λ task. task.limits.words ≤ region) tasks →
    (queue : Queue) → length queue.standings ≡ length tasks → length queue.passes ≡ length tasks →
    All (λ standing. standing ≡ Collected) queue.standings
    ⊎ ((event : Event) × (is_recall event ≡ false) × (is_open region tasks event queue ≡ true))

-- what is left grows smaller by each open event that is no recall
abbrev pub EventsUseUp : Type 0
EventsUseUp =
    (region : ℕ) (tasks : List Task) → All IsVerified tasks →
    (event : Event) (queue : Queue) → AreKept region tasks queue → is_recall event ≡ false →
    is_open region tasks event queue ≡ true →
    all_events_left tasks (after_event region tasks event queue).standings < all_events_left tasks queue.standings

-- of open events without recalls there are no more than are left
abbrev pub EventsEnd : Type 0
EventsEnd =
    (region : ℕ) (tasks : List Task) → All IsVerified tasks →
    (events : List Event) (queue : Queue) → AreKept region tasks queue →
    AreOpen region tasks events queue → All (λ event. is_recall event ≡ false) events →
    length events + all_events_left tasks (after_events region tasks events queue).standings
    ≤ all_events_left tasks queue.standings

-- open events without recalls are few for each job, its admission counted
abbrev pub EventsAreFew : Type 0
EventsAreFew =
    (region : ℕ) (tasks : List Task) → All IsVerified tasks →
    (events : List Event) (queue : Queue) → AreKept region tasks queue →
    AreOpen region tasks events queue → All (λ event. is_recall event ≡ false) events →
    (job : ℕ) (task : Task) → of_job job tasks ≡ Some task →
    event_count region tasks events queue job ≤ 2 * task.limits.budget + 3

-- ---- events of several jobs

-- an event of one job leaves every other as it was
abbrev pub OthersStay : Type 0
OthersStay =
    (region : ℕ) (tasks : List Task) (event : Event) (queue : Queue) (job : ℕ) →
    job_of region tasks event queue ≢ Some job →
    of_job job (after_event region tasks event queue).standings ≡ of_job job queue.standings

-- events that name two different jobs may change places, and neither opens or closes the other
pub record AreApart (region : ℕ) (tasks : List Task) (one other : Event) (queue : Queue) : Type 0 where
  pub same :
      after_event region tasks other (after_event region tasks one queue)
      ≡ after_event region tasks one (after_event region tasks other queue)
  pub one_open : is_open region tasks one (after_event region tasks other queue) ≡ is_open region tasks one queue
  pub other_open : is_open region tasks other (after_event region tasks one queue) ≡ is_open region tasks other queue

abbrev pub EventsCommute : Type 0
EventsCommute =
    (region : ℕ) (tasks : List Task) (queue : Queue) (one other : Event) (job another : ℕ) →
    named_job one ≡ Some job → named_job other ≡ Some another → job ≢ another →
    AreApart region tasks one other queue

-- a begin and a recall after it change nothing
abbrev pub RecallUndoesBegin : Type 0
RecallUndoesBegin =
    (region : ℕ) (tasks : List Task) (queue : Queue) (job : ℕ) →
    is_open region tasks (Begin job) queue ≡ true →
    is_open region tasks (Recall job) (after_event region tasks (Begin job) queue) ≡ true →
    after_event region tasks (Recall job) (after_event region tasks (Begin job) queue) ≡ queue

-- events after events are their lists joined
abbrev pub EventsJoin : Type 0
EventsJoin =
    (region : ℕ) (tasks : List Task) (earlier later : List Event) (queue : Queue) →
    after_events region tasks (earlier ++ later) queue
    ≡ after_events region tasks later (after_events region tasks earlier queue)

abbrev pub LeadsJoin : Type 0
LeadsJoin =
    (region : ℕ) (tasks : List Task) (old between new : Queue) → LeadTo region tasks old between →
    LeadTo region tasks between new → LeadTo region tasks old new

-- a recall of each job gives up each step that has begun
abbrev pub RecallsAreEvents : Type 0
RecallsAreEvents =
    (region : ℕ) (tasks : List Task) (queue : Queue) → length queue.standings ≡ length tasks →
    after_events region tasks (all_recalls (length tasks)) queue ≡ recalled_queue queue
