-- One step in two halves: what ends a job before the values are looked at, and what the values decide.
use Rattle.std.proofs.Common.{◌≡◌, ℕ, ◌+◌, ◌<◌, Bool, false, cond, eqb, List, Option, Some, None, arith}
use Rattle.vcode_base.specs.declared.outcome.Outcome.TheVariants.{Budget}
use Rattle.signatures.specs.Signatures.{Signature}
use Rattle.job_steps.specs.EventLaws.{IsEndAt, IsReady}
use Rattle.job_steps.specs.Events.{early_end}
use Rattle.job_steps.specs.Reached.{IsVerifiedTask, Reaches, NeverStuck, EndIsOwn}
use Rattle.job_steps.specs.Runs.{state_after}
use Rattle.job_steps.specs.States.{Task, State}
use Rattle.job_steps.specs.Steps.{Ending, Running, next_progress}
use Rattle.job_steps.proofs.Progresses.{goes}

-- what ends a job before the values are looked at is its end
pub early_ends : NeverStuck → Reaches → EndIsOwn → (signatures : List Signature) (task : Task) →
    IsVerifiedTask signatures task → (n : ℕ) (s : State) (ending : Ending) → state_after task n ≡ Running s →
    early_end task s ≡ Some ending → IsEndAt task n s ending
early_ends stuck reaches own signatures task v n s ending e early =
    let count = (reaches signatures task v n s e).count in
    let stuck = stuck signatures task v (n + 1) in
    let same = own task (n + 1) ending n s.peak in
    let h = goes task s in
    grind arith

-- with a step begun, the budget isn't spent, and nothing else ends the job
pub spent_none : (budget : ℕ) (s : State) (o : Option Ending) (b : Bool) → eqb s.executed budget ≡ b →
    cond b (Some Budget) o ≡ None → (eqb s.executed budget ≡ false) × (o ≡ None)
spent_none budget s o b is early = grind arith

pub below_budget : Reaches → (signatures : List Signature) (task : Task) → IsVerifiedTask signatures task →
    (n : ℕ) (s : State) → state_after task n ≡ Running s → early_end task s ≡ None → n < task.limits.budget
below_budget reaches signatures task v n s e early =
    let r = reaches signatures task v n s e in grind arith

-- what the values decide
pub is_ready : NeverStuck → Reaches → (signatures : List Signature) (task : Task) → IsVerifiedTask signatures task →
    (n : ℕ) (s : State) → state_after task n ≡ Running s → early_end task s ≡ None → IsReady task n s
is_ready stuck reaches signatures task v n s e early =
    let less = below_budget reaches signatures task v n s e early in
    let never = stuck signatures task v (n + 1) in
    let one : state_after task (n + 1) ≡ next_progress task s = grind arith in
    let h = goes task s in
    grind arith
