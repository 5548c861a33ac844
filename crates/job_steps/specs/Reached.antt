-- What holds of each state that a verified job reaches alone.
use Rattle.std.specs.Prelude.{◌≡◌, ℕ, ◌+◌, ◌<◌, ◌≤◌, List, [], ◌∷◌, ◌++◌, length, map, All}
use Rattle.vcode_base.specs.declared.kind.Kind.{Kind}
use Rattle.vcode_base.specs.Instructions.{op_of}
use Rattle.vcode_base.specs.Kinds.{HasKind, HaveKinds, source_kinds}
use Rattle.vcode_base.specs.declared.outcome.Outcome.{Outcome}
use Rattle.vcode_base.specs.declared.outcome.Outcome.TheVariants.{Returned}
use Rattle.vcode_reader.specs.Trees.{IsProperBody, HaveProperBodies}
use Rattle.signatures.specs.Signatures.{Signature}
use Rattle.verifier.specs.Kinded.{Scope, HasKinds, scope_of}
use Rattle.verifier.specs.Typed.{TypedProgram, IsVerifiedBy}
use Rattle.job_steps.specs.States.{Vector, Task, StackEntry, Active, State, stack_kinds, held_words}
use Rattle.job_steps.specs.Steps.{Running, Over, Stuck, next_item, sources_of}
use Rattle.job_steps.specs.Runs.{state_after, whole_run, outcome, executed_count, peak}

-- The signatures verify the program. Its bodies hold neither RET nor an instruction IF, and each list in them is of its
-- kind.
pub record IsVerifiedProgram (signatures : List Signature) (verified : TypedProgram) : Type 0 where
  pub by_signatures : IsVerifiedBy signatures verified
  pub proper : HaveProperBodies verified.program.functions

-- some signatures verify the program
abbrev pub IsVerifiedBySome : TypedProgram → Type 0
IsVerifiedBySome verified = (signatures : List Signature) × IsVerifiedProgram signatures verified

-- the signatures verify the task's program
abbrev pub IsVerifiedTask : List Signature → Task → Type 0
IsVerifiedTask signatures task = IsVerifiedProgram signatures task.verified

-- What remains of each call, the innermost first, goes from its own entries, which lie on those of the outer calls, to
-- what
-- its function gives; at the end these are the results.
abbrev pub AreTyped : Scope → List Kind → List Active → List Kind → Type 0
AreTyped scope results [] kinds = kinds ≡ results
AreTyped scope results (call ∷ outer) kinds =
    (below own gives : List Kind) × (kinds ≡ below ++ own) × HasKinds scope call.rest own gives
    × IsProperBody call.rest
    × AreTyped scope results outer (below ++ gives)

-- the words of a vector are those of its kind
abbrev pub HasItsKind : Vector → Type 0
HasItsKind v = HasKind v.kind v.words

-- entries with one tag have one value
abbrev pub AreAlike : StackEntry → StackEntry → Type 0
AreAlike x y = x.tag ≡ y.tag → x.value ≡ y.value

-- the state after n instructions: within the limits, and with the entries that what remains takes
pub record IsReached (signatures : List Signature) (task : Task) (n : ℕ) (s : State) : Type 0 where
  pub typed : AreTyped (scope_of signatures task.verified.program) task.verified.results s.calls (stack_kinds s.stack)
  pub active : 1 ≤ length s.calls
  pub count : s.executed ≡ n
  pub budget : n ≤ task.limits.budget
  pub tags : All (λ e. e.tag < s.next) s.stack
  pub alike : All (λ x. All (AreAlike x) s.stack) s.stack
  pub words : held_words s.stack ≤ task.limits.words
  pub held : held_words s.stack ≤ s.peak
  pub highest : s.peak ≤ task.limits.words
  pub cells : length s.stack ≤ task.limits.cells
  pub calls : length s.calls ≤ task.limits.calls

-- each state that a verified job reaches is such a state
abbrev pub Reaches : Type 0
Reaches =
    (signatures : List Signature) (task : Task) → IsVerifiedTask signatures task →
    (n : ℕ) (s : State) → state_after task n ≡ Running s → IsReached signatures task n s

-- a verified job never meets a missing operand, a wrong kind or an unknown function
abbrev pub NeverStuck : Type 0
NeverStuck = (signatures : List Signature) (task : Task) → IsVerifiedTask signatures task → (n : ℕ) →
    state_after task n ≡ Stuck → ⊥

-- a run that is over stays so, with its counts
abbrev pub EndsOnce : Type 0
EndsOnce =
    (task : Task) (n later : ℕ) (ending : Outcome (List Vector)) (count most : ℕ) →
    state_after task n ≡ Over ending count most → state_after task (n + later) ≡ Over ending count most

-- a verified job ends, within its budget and its words
pub record IsWithin (task : Task) : Type 0 where
  pub over : whole_run task ≡ Over (outcome task) (executed_count task) (peak task)
  pub budget : executed_count task ≤ task.limits.budget
  pub words : peak task ≤ task.limits.words

abbrev pub EachEnds : Type 0
EachEnds = (signatures : List Signature) (task : Task) → IsVerifiedTask signatures task → IsWithin task

-- a job is over from any of its ends on, so that its outcome and its counts are its own
abbrev pub EndIsOwn : Type 0
EndIsOwn =
    (task : Task) (n : ℕ) (ending : Outcome (List Vector)) (count most : ℕ) →
    state_after task n ≡ Over ending count most →
    (outcome task ≡ ending) × (executed_count task ≡ count) × (peak task ≡ most)

-- the results of a verified job that returns are of the kinds that its MAIN gives
abbrev pub ResultsHaveKinds : Type 0
ResultsHaveKinds =
    (signatures : List Signature) (task : Task) → IsVerifiedTask signatures task →
    (n : ℕ) (values : List Vector) (count most : ℕ) → state_after task n ≡ Over (Returned values) count most →
    map (λ v. v.kind) values ≡ task.verified.results

-- The words of each vector that a verified job reaches are those of its kind, and so are the operands of its next
-- instruction.
abbrev pub ValuesHaveKinds : Type 0
ValuesHaveKinds =
    (signatures : List Signature) (task : Task) → IsVerifiedTask signatures task →
    (n : ℕ) (s : State) → state_after task n ≡ Running s →
    All (λ e. HasItsKind e.value) s.stack
    × ((call : Active) (outer : List Active) → s.calls ≡ call ∷ outer →
    HaveKinds (source_kinds (op_of (next_item call).item)) (sources_of (next_item call).item s.stack))
