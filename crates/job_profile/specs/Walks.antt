-- The run of a job alone, as far as it has come.
use Rattle.std.specs.Prelude.{◌≡◌, ℕ, ℤ, ◌+◌, Bool, true, false, List, [], ◌∷◌, Option, Some, None}
use Rattle.std.specs.Prelude.{refl, reverse, map}
use Rattle.std.specs.Coded.{Coded, code_by, coded×}
use Rattle.vcode_base.specs.declared.rule.Rule.{Rule}
use Rattle.vcode_reader.specs.Trees.{CodeLine}
use Rattle.job_steps.specs.declared.frame.Frame.{Frame}
use Rattle.job_steps.specs.Frames.{StandAll, next_line}
use Rattle.job_steps.specs.Runs.{state_after, outcome, executed_count, peak}
use Rattle.job_steps.specs.Standings.{Standing, Waiting, Live, InFlight, Ended, Collected, outcome_at}
use Rattle.job_steps.specs.States.{JobValue, Task, Active, StackEntry, ruled, words_of}
use Rattle.job_steps.specs.Steps.{Ending, Progress, Running, Over, Stuck}
use Rattle.job_steps.specs.Tracks.{functions_of}

-- the job, and its standing in its run
pub record RunState : Type 0 where
  pub task : Task
  pub standing : Standing

abbrev pub goes_on : Progress → Bool
goes_on (Running s) = true
goes_on (Over ending executed peak) = false
goes_on Stuck = false

-- the run of a job of this standing
abbrev pub progress_at : Task → Standing → Progress
progress_at task Waiting = state_after task 0
progress_at task (Live n) = state_after task n
progress_at task (InFlight n) = state_after task n
progress_at task Ended = Over (outcome task) (executed_count task) (peak task)
progress_at task Collected = Over (outcome task) (executed_count task) (peak task)

-- how far the run has come
abbrev pub progress_of : RunState → Progress
progress_of r = progress_at r.task r.standing

-- nothing is executed
abbrev pub first_run : Task → RunState
first_run task = record { task = task; standing = Live 0 }

-- the same job has come as far as this
pub record HasCome (task : Task) (p : Progress) (r : RunState) : Type 0 where
  pub task_is : r.task ≡ task
  pub progress_is : progress_of r ≡ p

-- The same job has come to the state of its run that is this many instructions after the one where it was, or is over.
pub record HasGoneOn (count : ℕ) (old new : RunState) : Type 0 where
  pub from : ℕ
  pub was : progress_of old ≡ state_after old.task from
  pub come : HasCome old.task (state_after old.task (from + count)) new

-- how the job ended, if that is collected
abbrev pub ending_of : RunState → Option Ending
ending_of r = outcome_at r.task r.standing

-- how a run that is over ended
abbrev pub ending_at : Progress → Option Ending
ending_at (Running s) = None
ending_at (Over ending executed peak) = Some ending
ending_at Stuck = None

-- the parts that identify a run
abbrev pub run_code : Coded Rule → Coded JobValue → Coded Standing → Coded RunState
run_code rule job standing =
    code_by (Rule × (JobValue × Standing)) (coded× rule (coded× job standing))
    (λ r. (
      r.task.rule,
      (record { name = r.task.name; verified = r.task.verified; limits = r.task.limits }, r.standing),
    ))
    (λ p. record { task = ruled p.0 p.1.0; standing = p.1.1 }) (λ _. refl)

-- ---- a picture: what there is at a state

-- the words of the entries of the stack, the top first
abbrev pub lists_in : Progress → List (List ℤ)
lists_in (Running s) = words_of s.stack
lists_in (Over ending executed peak) = []
lists_in Stuck = []

abbrev pub tags_of : List StackEntry → List ℕ
tags_of entries = map (λ e. e.tag) entries

-- the tags of the entries, which copies share
abbrev pub tags_in : Progress → List ℕ
tags_in (Running s) = tags_of s.stack
tags_in (Over ending executed peak) = []
tags_in Stuck = []

-- both are there and are one
abbrev pub AreSame : Option ℕ → Option ℕ → Type 0
AreSame None other = ⊥
AreSame (Some x) None = ⊥
AreSame (Some x) (Some y) = x ≡ y

abbrev pub first_next_line : List Active → Option CodeLine
first_next_line [] = None
first_next_line (call ∷ outer) = Some (next_line call)

-- the line of the next instruction
abbrev pub next_line_in : Progress → Option CodeLine
next_line_in (Running s) = first_next_line s.calls
next_line_in (Over ending executed peak) = None
next_line_in Stuck = None

-- the frames, that of the innermost call last, are at the calls
abbrev pub StandAt : Task → List Frame → Progress → Type 0
StandAt task frames (Running s) = StandAll (functions_of task.verified) (reverse frames) s.calls
StandAt task frames (Over ending executed peak) = Unit {0}
StandAt task frames Stuck = Unit {0}
