-- A machine that has run out.
use Rattle.std.proofs.Common.{◌≡◌, ℕ, zero, suc, ◌+◌, ◌<◌, ◌≤◌, take, get_or, List, [], ◌∷◌, length, Some}
use Rattle.std.proofs.Common.{◌++◌, Option, refl, ap, arith}
use Rattle.std.specs.Prelude.{All, slice_get, option_map}
use Rattle.std.proofs.lemmas.List.Elements.{All-head, All-more, All-tail, All-weaker}
use Rattle.vcode_base.specs.declared.outcome.Outcome.{Outcome}
use Rattle.job_steps.specs.Runs.{outcome, executed_count, peak}
use Rattle.job_steps.specs.Standings.{Standing, Collected, of_job, executed_at, peak_at, outcome_at}
use Rattle.job_steps.specs.States.{Task, Vector}
use Rattle.job_machine.specs.Machines.{MachineState, told, told_by, outcome_by, outcome_in}
use Rattle.batch_front.specs.Reports.{outcome_text, used_text}
use Rattle.batch_front.specs.ReportedJobs.{HasRunOut, IsTask, told_text}

-- a job that there is has its standing
told_out : {T : Type 0} (of : Task → Standing → T) (tasks : List Task) (standings : List Standing) (place : ℕ)
    → length standings ≡ length tasks → All (λ s. s ≡ Collected) standings
    → told_by of (slice_get tasks place) (slice_get standings place)
    ≡ option_map (λ task. of task Collected) (slice_get tasks place)
told_out of [] standings place e all = refl
told_out of (t ∷ ts) [] place e all = grind arith
told_out of (t ∷ ts) (s ∷ ss) zero e all = ap (λ k. Some (of t k)) (All-head (λ s. s ≡ Collected) s ss all)
told_out of (t ∷ ts) (s ∷ ss) (suc place) e all =
    told_out of ts ss place (omega (arith, e)) (All-tail (λ s. s ≡ Collected) s ss all)

outcome_out : (tasks : List Task) (standings : List Standing) (place : ℕ)
    → length standings ≡ length tasks → All (λ s. s ≡ Collected) standings
    → outcome_by (slice_get tasks place) (slice_get standings place) ≡ option_map outcome (slice_get tasks place)
outcome_out [] standings place e all = refl
outcome_out (t ∷ ts) [] place e all = grind arith
outcome_out (t ∷ ts) (s ∷ ss) zero e all = ap (λ k. outcome_at t k) (All-head (λ s. s ≡ Collected) s ss all)
outcome_out (t ∷ ts) (s ∷ ss) (suc place) e all =
    outcome_out ts ss place (omega (arith, e)) (All-tail (λ s. s ≡ Collected) s ss all)

-- what is reported of a job is the result of its run alone
pub outcome_told : (m : MachineState) (job : ℕ) → HasRunOut m
    → outcome_in job m ≡ option_map outcome (of_job job m.tasks)
outcome_told m job h = grind (arith, outcome_out)

pub executed_told : (m : MachineState) (job : ℕ) → HasRunOut m
    → told executed_at job m ≡ option_map executed_count (of_job job m.tasks)
executed_told m job h = grind (arith, told_out, executed_at)

pub peak_told : (m : MachineState) (job : ℕ) → HasRunOut m → told peak_at job m ≡ option_map peak (of_job job m.tasks)
peak_told m job h = grind (arith, told_out, peak_at)

-- what a machine that has run out reports of a job
pub ruleset told_of_a_job = (outcome_told, executed_told, peak_told)

-- the lines on a job that there is
pub told_as : (task : Option Task) (ending : Outcome (List Vector)) (instructions words : ℕ) → IsTask task
    → Some ending ≡ option_map outcome task → Some instructions ≡ option_map executed_count task
    → Some words ≡ option_map peak task → outcome_text ending ++ used_text instructions words ≡ told_text task
told_as task ending instructions words there e f g = grind arith

-- ---- words

-- a bound of the first jobs and the next
pub more_within : (tasks : List Task) (place old new : ℕ) (any : Task) → place < length tasks
    → All (λ task. task.limits.words ≤ old) (take place tasks) → old ≤ new
    → (get_or tasks place any).limits.words ≤ new → All (λ task. task.limits.words ≤ new) (take (place + 1) tasks)
more_within tasks place old new any l all e h =
    All-more (λ task. task.limits.words ≤ new) tasks place any l
    (All-weaker (λ task. task.limits.words ≤ old) (λ task. task.limits.words ≤ new) (λ task k. omega (arith, e, k))
    (take place tasks) all)
    h
