-- What a machine shows, and what events make of it.
use Rattle.std.specs.Prelude.{◌≡◌, ℕ, zero, suc, nat_lt, max, Bool, true, false, ◌||◌, if◌then◌else◌, List, [], ◌∷◌}
use Rattle.std.specs.Prelude.{fold}
use Rattle.std.specs.Prelude.{Option, Some, None, refl}
use Rattle.std.specs.Coded.{Coded, code_by, coded_ℕ, coded×, coded_list}
use Rattle.vcode_base.specs.declared.rule.Rule.{Rule}
use Rattle.job_steps.specs.declared.event.Event.{Event}
use Rattle.job_steps.specs.declared.event.Event.TheVariants as event
use Rattle.job_steps.specs.Events.{after_event, after_events, recalled_standings, recalled_queue, LeadTo}
use Rattle.job_steps.specs.Questions.{Question}
use Rattle.job_steps.specs.Runs.{outcome}
use Rattle.job_steps.specs.Standings.{Standing, Waiting, Ended, Collected, Queue, of_job, is_waiting, admission}
use Rattle.job_steps.specs.Standings.{outcome_at}
use Rattle.job_steps.specs.States.{JobValue, Task, ruled}
use Rattle.job_steps.specs.Steps.{Ending}
use Rattle.job_steps.specs.Tickets.{Asked}
use Rattle.job_slots.specs.declared.answer.Begun.{Begun}
use Rattle.job_slots.specs.declared.answer.Begun.TheVariants as begun
use Rattle.job_slots.specs.declared.answer.Finished.{Finished}
use Rattle.job_slots.specs.declared.answer.Finished.TheVariants as finished
use Rattle.job_slots.specs.declared.answer.Stepped.{Stepped}
use Rattle.job_slots.specs.declared.answer.Stepped.TheVariants as stepped
use Rattle.job_slots.specs.Answers.{Begins, Finishes, Steps, is_live, is_in_flight, is_ended}
use Rattle.job_slots.specs.Answers.{question_at}
use Rattle.job_slots.specs.Slots.{IsReturned}
use Rattle.job_machine.specs.declared.machine.Admission.{Admission}
use Rattle.job_machine.specs.declared.machine.Admission.TheVariants.{Admitted, NotNow, NoneWaiting}

-- the rule, the words of the region, and the jobs in order, each with that rule, with where each stands and how often
-- it
-- was passed by
pub record MachineState : Type 0 where
  pub rule : Rule
  pub region : ℕ
  pub tasks : List Task
  pub standings : List Standing
  pub passes : List ℕ

-- it is identified by all of these
abbrev pub task_code : Coded Rule → Coded JobValue → Coded Task
task_code rule job =
    code_by (Rule × JobValue) (coded× rule job)
    (λ t. (t.rule, record { name = t.name; verified = t.verified; limits = t.limits })) (λ p. ruled p.0 p.1) (λ _. refl)

abbrev pub machine_code : Coded Rule → Coded JobValue → Coded Standing → Coded MachineState
machine_code rule job standing =
    code_by (Rule × (ℕ × (List Task × (List Standing × List ℕ))))
    (coded× rule (coded× coded_ℕ (coded× (coded_list (task_code rule job)) (coded× (coded_list standing)
    (coded_list coded_ℕ)))))
    (λ m. (m.rule, (m.region, (m.tasks, (m.standings, m.passes)))))
    (λ p. record {
      rule = p.0;
      region = p.1.0;
      tasks = p.1.1.0;
      standings = p.1.1.1.0;
      passes = p.1.1.1.1;
    }) (λ _. refl)

abbrev pub queue_of : MachineState → Queue
queue_of m = record { standings = m.standings; passes = m.passes }

-- the same jobs in another queue
abbrev pub with_queue : MachineState → Queue → MachineState
with_queue m queue = record {
  rule = m.rule;
  region = m.region;
  tasks = m.tasks;
  standings = queue.standings;
  passes = queue.passes;
}

-- the machine after an event; an event that isn't open changes nothing
abbrev pub machine_after : Event → MachineState → MachineState
machine_after event m = with_queue m (after_event m.region m.tasks event (queue_of m))

-- the machine after events, one after another
abbrev pub after_all : List Event → MachineState → MachineState
after_all events m = with_queue m (after_events m.region m.tasks events (queue_of m))

-- the machine with every step given up that has begun
abbrev pub recalled : MachineState → MachineState
recalled m = with_queue m (recalled_queue (queue_of m))

-- some events lead from one machine to another
abbrev pub Leads : MachineState → MachineState → Type 0
Leads old new =
    (new.region ≡ old.region) × (new.tasks ≡ old.tasks) × LeadTo old.region old.tasks (queue_of old) (queue_of new)
    × (new.rule ≡ old.rule)

-- the words of the job that has the most, and 0 if there is no job
abbrev pub most_words : List Task → ℕ
most_words tasks = fold (λ most task. max most task.limits.words) 0 tasks

-- ---- admission

abbrev pub any_waits : List Standing → Bool
any_waits [] = false
any_waits (standing ∷ standings) = is_waiting standing || any_waits standings

-- what an admission answers, by whether some job waits, and by the job that is admitted next
abbrev pub admission_by : Bool → Option ℕ → Admission
admission_by waits (Some job) = Admitted job
admission_by true None = NotNow
admission_by false None = NoneWaiting

abbrev pub admission_in : MachineState → Admission
admission_in m = admission_by (any_waits m.standings) (admission m.region m.tasks (queue_of m))

-- ---- a begin and a finish

-- what a begin answers, of the job of that number, if there is one
abbrev pub BeginsIn : {A : Type 0} → (job words : ℕ) → Option Task → Option Standing → Begun A → Type 0
BeginsIn job words (Some task) (Some standing) answer = Begins job words task standing answer
BeginsIn job words None standing (begun.NotReady desk) = desk ≡ words
BeginsIn job words None standing answer = ⊥
BeginsIn job words (Some task) None (begun.NotReady desk) = desk ≡ words
BeginsIn job words (Some task) None answer = ⊥

-- nothing changes if the job isn't ready, or the desk is too small
abbrev pub after_begun : {A T : Type 0} → Begun A → (old next : T) → T
after_begun (begun.Began ticket) old next = next
after_begun (begun.Ended desk) old next = next
after_begun (begun.NotReady desk) old next = old
after_begun (begun.SmallDesk desk) old next = old

abbrev pub FinishesIn : Asked → Option Task → Option Standing → Finished → Type 0
FinishesIn filled (Some task) (Some standing) answer = Finishes filled.job task standing filled answer
FinishesIn filled None standing finished.Stale = Unit {0}
FinishesIn filled None standing answer = ⊥
FinishesIn filled (Some task) None finished.Stale = Unit {0}
FinishesIn filled (Some task) None answer = ⊥

-- nothing changes if the step is stale
abbrev pub after_finished : {T : Type 0} → Finished → (old next : T) → T
after_finished finished.Done old next = next
after_finished finished.Ended old next = next
after_finished finished.Stale old next = old

-- what a job asks after n instructions
abbrev pub asked_of : Option Task → ℕ → Option Question
asked_of (Some task) n = question_at task n
asked_of None n = None

-- the same of the job of that number, if there is one
abbrev pub asked_in : List Task → (job n : ℕ) → Option Question
asked_in tasks job n = asked_of (of_job job tasks) n

-- ---- a step in one go

-- the machine after a begin and then a finish of a job
abbrev pub after_step : ℕ → MachineState → MachineState
after_step job m = machine_after (event.Finish job) (machine_after (event.Begin job) m)

-- what a step in one go answers, of the job of that number, if there is one
abbrev pub StepsIn : (job words : ℕ) → Option Task → Option Standing → Stepped → Type 0
StepsIn job words (Some task) (Some standing) answer = Steps job words task standing answer
StepsIn job words None standing stepped.NotReady = Unit {0}
StepsIn job words None standing answer = ⊥
StepsIn job words (Some task) None stepped.NotReady = Unit {0}
StepsIn job words (Some task) None answer = ⊥

-- ---- what is reported of a job, if there is one of that number

abbrev pub is_flying : Option Standing → Bool
is_flying None = false
is_flying (Some standing) = is_in_flight standing

abbrev pub is_over : Option Standing → Bool
is_over None = false
is_over (Some standing) = is_ended standing

abbrev pub told_by : {T : Type 0} → (Task → Standing → T) → Option Task → Option Standing → Option T
told_by of (Some task) (Some standing) = Some (of task standing)
told_by of (Some task) None = None
told_by of None standing = None

-- what is so of the task and the standing of a job
abbrev pub told : {T : Type 0} → (Task → Standing → T) → ℕ → MachineState → Option T
told of job m = told_by of (of_job job m.tasks) (of_job job m.standings)

abbrev pub outcome_by : Option Task → Option Standing → Option Ending
outcome_by (Some task) (Some standing) = outcome_at task standing
outcome_by (Some task) None = None
outcome_by None standing = None

-- the outcome of a job that is collected
abbrev pub outcome_in : ℕ → MachineState → Option Ending
outcome_in job m = outcome_by (of_job job m.tasks) (of_job job m.standings)

-- the job of this number has ended by return
pub record HasReturnedIn (m : MachineState) (job : ℕ) : Type 0 where
  pub task : Task
  pub task_is : of_job job m.tasks ≡ Some task
  pub ended : of_job job m.standings ≡ Some Ended
  pub returned : IsReturned (outcome task)

-- ---- jobs by their places

-- the place of a job, counted from 0, among `count` jobs
abbrev pub place_of : ℕ → ℕ → Option ℕ
place_of count zero = None
place_of count (suc place) = if nat_lt place count then Some place else None

-- ---- running out

-- the job runs, with no step begun
abbrev pub is_running : Option Standing → Bool
is_running None = false
is_running (Some standing) = is_live standing

-- `count` steps of a job lead from one machine to another, and it was live at each
abbrev pub StepsLeadIn : (count job : ℕ) → MachineState → MachineState → Type 0
StepsLeadIn zero job old new = new ≡ old
StepsLeadIn (suc count) job old new =
    (is_running (of_job job old.standings) ≡ true) × StepsLeadIn count job (after_step job old) new

-- some steps of it lead there
abbrev pub HasRunIn : ℕ → MachineState → MachineState → Type 0
HasRunIn job old new = (count : ℕ) × StepsLeadIn count job old new

abbrev pub IsWaitingOrCollected : Standing → Type 0
IsWaitingOrCollected Waiting = Unit {0}
IsWaitingOrCollected Collected = Unit {0}
IsWaitingOrCollected standing = ⊥

-- a job that didn't wait is collected; there may be no such job
abbrev pub IsDone : Option Standing → Type 0
IsDone None = Unit {0}
IsDone (Some standing) = IsWaitingOrCollected standing

-- no step has begun
abbrev pub HasNoStep : MachineState → Type 0
HasNoStep m = recalled_standings m.standings ≡ m.standings

-- other jobs keep their standings
abbrev pub OthersStand : ℕ → MachineState → MachineState → Type 0
OthersStand job old new = (other : ℕ) → (other ≡ job → ⊥) → of_job other new.standings ≡ of_job other old.standings

-- from one machine to another by events of a job, at whose end no step has begun
pub record GoesOn (job : ℕ) (old new : MachineState) : Type 0 where
  pub leads : Leads old new
  pub no_step : HasNoStep new
  pub others : OthersStand job old new
