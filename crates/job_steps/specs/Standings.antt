-- The standing of each job of a list, how many words are reserved, and which job is admitted next.
use Rattle.std.specs.Prelude.{
  ℕ,
  zero,
  suc,
  ◌+◌,
  ◌-◌,
  ◌≤◌,
  nat_le,
  Bool,
  true,
  false,
  ◌&&◌,
  if◌then◌else◌,
  List,
  [],
  ◌∷◌,
}
use Rattle.std.specs.Prelude.{map, slice_get, slice_set, All, Option, Some, None}
use Rattle.vcode_base.specs.declared.limits.TheConstants.{MOST_PASSES}
use Rattle.vcode_base.specs.declared.outcome.Outcome.TheVariants.{Returned, Fault, Memory, Budget}
use Rattle.job_steps.specs.Runs.{state_after, peak_in, outcome, executed_count, peak}
use Rattle.job_steps.specs.States.{Task, held_words}
use Rattle.job_steps.specs.Steps.{Ending, Progress, Running, Over, Stuck}

-- The standing of a job: it waits; it has executed n instructions, with no step begun or with one; it has ended; its
-- outcome is collected.
pub data Standing : Type 0 where
  Waiting : Standing
  Live : (step : ℕ) → Standing
  InFlight : (step : ℕ) → Standing
  Ended : Standing
  Collected : Standing

-- what a list has for the job of a number, from 1 on
abbrev pub of_job : {E : Type 0} → ℕ → List E → Option E
of_job zero list = None
of_job (suc place) list = slice_get list place

-- the standings with another one for the job of a number
abbrev pub with_standing : ℕ → Standing → List Standing → List Standing
with_standing zero standing standings = standings
with_standing (suc place) standing standings = slice_set standings place standing

-- the standings of jobs before the first event
abbrev pub first_standings : List Task → List Standing
first_standings tasks = map (λ task. Waiting) tasks

abbrev pub is_waiting : Standing → Bool
is_waiting Waiting = true
is_waiting standing = false

-- The standings of the jobs, and how often each was passed by: how many jobs after it were admitted while it waited.
pub record Queue : Type 0 where
  pub standings : List Standing
  pub passes : List ℕ

-- each job was passed by at most so often
abbrev pub AreFew : List ℕ → Type 0
AreFew passes = All (λ count. count ≤ MOST_PASSES) passes

-- before the first event each job waits, and none was passed by
abbrev pub first_queue : List Task → Queue
first_queue tasks = record { standings = first_standings tasks; passes = map (λ task. 0) tasks }

-- ---- reserved words

-- a job has its words reserved from its admission until it is collected
abbrev pub reserved_words : Task → Standing → ℕ
reserved_words task Waiting = 0
reserved_words task (Live n) = task.limits.words
reserved_words task (InFlight n) = task.limits.words
reserved_words task Ended = task.limits.words
reserved_words task Collected = 0

-- the sum of a number of each job
abbrev pub sum_over : (Task → Standing → ℕ) → List Task → List Standing → ℕ
sum_over number [] standings = 0
sum_over number (task ∷ tasks) [] = 0
sum_over number (task ∷ tasks) (standing ∷ standings) = number task standing + sum_over number tasks standings

-- the words that are reserved for all jobs together
abbrev pub granted_words : List Task → List Standing → ℕ
granted_words tasks standings = sum_over reserved_words tasks standings

-- ---- admission

-- the words of this job fit into the region beside those that are granted
abbrev pub has_room : ℕ → ℕ → Task → Bool
has_room region granted task = nat_le (granted + task.limits.words) region

-- a waiting job that was passed by often enough is passed by no more
abbrev pub is_passed_enough : Standing → ℕ → Bool
is_passed_enough standing count = is_waiting standing && nat_le MOST_PASSES count

-- the number of the first of these jobs that waits and fits, unless one before it is passed by no more; the jobs are
-- numbered from this number on
abbrev pub admission_from : ℕ → (Task → Bool) → List Task → List Standing → List ℕ → Option ℕ
admission_from job fits [] standings passes = None
admission_from job fits (task ∷ tasks) [] passes = None
admission_from job fits (task ∷ tasks) (standing ∷ standings) [] = None
admission_from job fits (task ∷ tasks) (standing ∷ standings) (count ∷ passes) =
    if is_waiting standing && fits task then Some job else
    (if is_passed_enough standing count then None else admission_from (suc job) fits tasks standings passes)

-- the number of the job that is admitted next
unfoldable pub admission : ℕ → List Task → Queue → Option ℕ
admission region tasks queue =
    admission_from 1 (has_room region (granted_words tasks queue.standings)) tasks queue.standings queue.passes

-- once more, if the job waits
abbrev pub passed_once_more : Standing → ℕ → ℕ
passed_once_more standing count = if is_waiting standing then suc count else count

-- the passes once the job at this place is admitted: each job that waits before it is passed by once more
abbrev pub passes_before : ℕ → List Standing → List ℕ → List ℕ
passes_before zero standings passes = passes
passes_before (suc place) [] passes = passes
passes_before (suc place) (standing ∷ standings) [] = []
passes_before (suc place) (standing ∷ standings) (count ∷ passes) =
    passed_once_more standing count ∷ passes_before place standings passes

-- ---- what is reported of a job

-- how many instructions it has executed
abbrev pub executed_at : Task → Standing → ℕ
executed_at task Waiting = 0
executed_at task (Live n) = n
executed_at task (InFlight n) = n
executed_at task Ended = executed_count task
executed_at task Collected = executed_count task

-- the most words that it held and needed
abbrev pub peak_at : Task → Standing → ℕ
peak_at task Waiting = 0
peak_at task (Live n) = peak_in (state_after task n)
peak_at task (InFlight n) = peak_in (state_after task n)
peak_at task Ended = peak task
peak_at task Collected = peak task

-- the words of the vectors on the stack
abbrev pub held_in : Progress → ℕ
held_in (Running s) = held_words s.stack
held_in (Over ending executed peak) = 0
held_in Stuck = 0

-- what a job leaves until it is collected: if it returned the vectors that were on its stack, else nothing
abbrev pub left_words : Task → Ending → ℕ
left_words task (Returned values) = held_in (state_after task (executed_count task - 1))
left_words task (Fault fault line) = 0
left_words task (Memory fault line) = 0
left_words task Budget = 0

-- the words of its vectors
abbrev pub held_by : Task → Standing → ℕ
held_by task Waiting = 0
held_by task (Live n) = held_in (state_after task n)
held_by task (InFlight n) = held_in (state_after task n)
held_by task Ended = left_words task (outcome task)
held_by task Collected = 0

-- the words of all vectors of all jobs
abbrev pub used_words : List Task → List Standing → ℕ
used_words tasks standings = sum_over held_by tasks standings

-- its outcome, once it is collected
abbrev pub outcome_at : Task → Standing → Option Ending
outcome_at task Waiting = None
outcome_at task (Live n) = None
outcome_at task (InFlight n) = None
outcome_at task Ended = None
outcome_at task Collected = Some (outcome task)
