-- Runs of one job under the second rule, and within other limits.
use Rattle.std.proofs.lemmas.Grind.{common_steps}
use Rattle.std.proofs.Common.{◌⊎◌, ◌≡◌, ℕ, zero, suc, ◌+◌, ◌≤◌, max, Bool, false, cond, eqb, List, ◌∷◌, Option, Some}
use Rattle.std.proofs.Common.{None, refl, sym, ◌∙◌, ap, subst, arith, length}
use Rattle.std.proofs.Math.Decide.{le_ind}
use Rattle.std.proofs.Math.Nat.{le-max_left, le-max_right, max-le}
use Rattle.vcode_base.specs.declared.fault.DataFault.{DataFault}
use Rattle.vcode_base.specs.declared.fault.MemoryFault.{MemoryFault}
use Rattle.vcode_base.specs.declared.fault.MemoryFault.TheVariants.{Words}
use Rattle.vcode_base.specs.declared.outcome.Outcome.TheVariants.{Memory, Budget}
use Rattle.vcode_base.specs.declared.rule.Rule.TheVariants.{First, Second}
use Rattle.vcode_base.specs.Instructions.{op_of}
use Rattle.vcode_base.specs.Meaning.{value_fault}
use Rattle.vcode_reader.specs.declared.line.Numbered.{Numbered}
use Rattle.vcode_reader.specs.Trees.{Item}
use Rattle.job_steps.specs.Motions.{operand_count, depth_after}
use Rattle.job_steps.specs.Reached.{Reaches, EachEnds, NeverStuck, EndIsOwn}
use Rattle.job_steps.specs.RuleLaws.{SecondRuleEndsAlike, SecondRuleGoesAsFar}
use Rattle.job_steps.specs.Runs.{progress_from, state_after, whole_run, outcome, executed_count, peak}
use Rattle.job_steps.specs.States.{JobValue, Task, Active, State, ruled}
use Rattle.job_steps.specs.Steps.{Progress, Running, Over, Stuck, next_item, sources_of, words_at, memory_fault}
use Rattle.job_steps.specs.Steps.{ending_by, progress_past, progress_by, progress_at, progress_unless, progress_in}
use Rattle.job_steps.specs.Steps.{next_progress}
use Rattle.vcode_base.specs.declared.limits.Limits.{Limits}
use Rattle.vcode_base.specs.declared.op.Op.{Op}
use Rattle.job_steps.specs.EventLaws.{IsVerified}
use Rattle.job_steps.specs.LeastLimits.{cells_in, calls_in, most_until, most_cells, most_calls, AreEnough, with_limits}
use Rattle.job_steps.specs.LeastLimits.{RunAlike, IsReturn, UsedAreLeast}
use Rattle.job_steps.proofs.Bounds.{Fits}
use Rattle.job_steps.proofs.Progresses.{goes, item_of, calls_then, Passes}
use Rattle.job_steps.proofs.StackLemmas.{held_drop}

-- a state with another peak
abbrev with_peak : ℕ → State → State
with_peak most s = record { stack = s.stack; calls = s.calls; executed = s.executed; next = s.next; peak = most }

-- the counts of instructions and of most words are at least these, unless the job can't go on
abbrev HasCounted : (least_count least_peak : ℕ) → Progress → Type 0
HasCounted x m (Running s) = (x ≤ s.executed) × (m ≤ s.peak)
HasCounted x m (Over ending y p) = (x ≤ y) × (m ≤ p)
HasCounted x m Stuck = Unit {0}

counted_from : (task : Task) (x m : ℕ) (p : Progress) → HasCounted x m p → HasCounted x m (progress_from task p)
counted_from task x m p h = grind (arith, goes)

-- the second state is the first one, but for a peak that is no greater
record IsLess (s t : State) : Type 0 where
  same : t ≡ with_peak t.peak s
  less : t.peak ≤ s.peak

-- A progress under the second rule goes with one under the first: it is the same, but for a peak that is no greater; or
-- the first is out of words, and the second has executed as many instructions.
abbrev Follows : Progress → Progress → Type 0
Follows (Running s) (Running t) = IsLess s t
Follows (Over (Memory Words line) x most) q = HasCounted x 0 q
Follows (Over ending x most) (Over other y least) = (ending ≡ other) × (x ≡ y) × (least ≤ most)
Follows Stuck Stuck = Unit {0}
Follows p q = ⊥

-- what is refused of fewer words is refused of more, or those are too many
no_less : (limits : Limits) (op : Op) (w v depth calls : ℕ) → v ≤ w →
    (memory_fault limits op w depth calls ≡ memory_fault limits op v depth calls)
    ⊎ (memory_fault limits op w depth calls ≡ Some Words)
unfolding memory_fault
no_less limits op w v depth calls h = grind arith

-- ---- one step

module _ (job : JobValue) (s : State) (most : ℕ) (h : most ≤ s.peak) where
  by_checks : (number : ℕ) (b : Bool) (o : Option DataFault) (f g : Option MemoryFault) (p q : Progress) →
      (f ≡ g) ⊎ (f ≡ Some Words) → Follows p q →
      HasCounted s.executed 0 (cond b (progress_unless (ending_by number o g) (with_peak most s) q) Stuck) →
      Follows (cond b (progress_unless (ending_by number o f) s p) Stuck)
      (cond b (progress_unless (ending_by number o g) (with_peak most s) q) Stuck)
  by_checks number b o f g p q faults later counted = grind arith

  by_value : (o : Option DataFault) (line : Numbered Item) (calls : List Active) →
      Follows (progress_by First o line s calls) (progress_by Second o line (with_peak most s) calls)
  by_value o line calls = grind arith

  by_line : (line : Numbered Item) (calls : List Active) →
      HasCounted s.executed 0 (progress_at (ruled Second job) line (with_peak most s) calls) →
      Follows (progress_at (ruled First job) line s calls)
      (progress_at (ruled Second job) line (with_peak most s) calls)
  by_line line calls counted =
      let less : words_at Second line.item s ≤ words_at First line.item s =
      omega (arith, held_drop (operand_count (op_of line.item)) s.stack) in
      by_checks line.number _ _ _ _ _ _ (no_less job.limits (op_of line.item) _ _ _ _ less)
      (by_value (value_fault (op_of line.item) (sources_of line.item s.stack)) line calls) counted

  by_all : (b : Bool) (calls : List Active) → HasCounted s.executed 0
      (cond b (Over Budget s.executed most) (progress_in (ruled Second job) (with_peak most s) calls)) →
      Follows (cond b (Over Budget s.executed s.peak) (progress_in (ruled First job) s calls))
      (cond b (Over Budget s.executed most) (progress_in (ruled Second job) (with_peak most s) calls))
  by_all false (call ∷ outer) counted = by_line (next_item call) _ counted
  by_all b calls counted = grind arith

  by_step : Follows (next_progress (ruled First job) s) (next_progress (ruled Second job) (with_peak most s))
  unfolding next_progress
  by_step =
      by_all (eqb s.executed job.limits.budget) s.calls
      (counted_from (ruled Second job) s.executed 0 (Running (with_peak most s)) (omega arith, omega arith))

-- ---- runs

follows_from : (job : JobValue) (p q : Progress) → Follows p q →
    Follows (progress_from (ruled First job) p) (progress_from (ruled Second job) q)
follows_from job p q h = grind (arith, counted_from, by_step)

follows : (job : JobValue) (n : ℕ) → Follows (state_after (ruled First job) n) (state_after (ruled Second job) n)
follows job zero = grind arith
follows job (suc n) = follows_from job _ _ (follows job n)

pub second_rule_ends_alike : SecondRuleEndsAlike
unfolding outcome executed_count peak whole_run
second_rule_ends_alike job enough = let f = follows job (job.limits.budget + 1) in grind arith

pub second_rule_goes_as_far : EachEnds → SecondRuleGoesAsFar
unfolding whole_run executed_count
second_rule_goes_as_far ends job v =
    let f = follows job (job.limits.budget + 1) in
    let first = ends v.0 (ruled First job) v.1 in
    let second = ends v.0 (ruled Second job) v.1 in grind arith

-- ---- what is used grows

counted_past : (rule : _) (x m : ℕ) (s : State) (item : Item) (calls : List Active) → x ≤ s.executed + 1 →
    m ≤ max s.peak (words_at rule item s) → HasCounted x m (progress_past rule item s calls)
counted_past rule x m s item calls h k = grind arith

-- the whole run has counted what is counted after n steps
counted_whole : EachEnds → (task : Task) → IsVerified task → (x m n : ℕ) → n ≤ task.limits.budget + 1 →
    HasCounted x m (state_after task n) → (x ≤ executed_count task) × (m ≤ peak task)
unfolding whole_run
counted_whole ends task v x m n h counted =
    subst (HasCounted x m) (ends v.0 task v.1).over (le_ind (λ i. HasCounted x m (state_after task i)) counted
    (λ i k. counted_from task x m (state_after task i)) (task.limits.budget + 1) h)

-- ---- a step that passes

abbrev past : Task → State → Active → List Active → Progress
past task s call outer = progress_past task.rule (item_of call) s (calls_then task s call outer)

-- nothing is refused of what fits
no_fault : (limits : Limits) (op : Op) (words depth calls : ℕ) → Fits limits op words depth calls →
    memory_fault limits op words depth calls ≡ None
unfolding memory_fault
no_fault limits op words depth calls f = grind arith

-- an instruction that passes all that is checked
module _ (task : Task) (s : State) (call : Active) (outer : List Active) (p : Passes task s call outer) where
  passes_past : next_progress task s ≡ past task s call outer
  unfolding next_progress
  passes_past = grind arith

  -- it passes within other limits too, if it fits
  passes_within : (limits : Limits) → eqb s.executed limits.budget ≡ false → Fits limits (op_of (item_of call))
      (words_at task.rule (item_of call) s) (depth_after (op_of (item_of call)) (length s.stack)) (length s.calls) →
      Passes (with_limits limits task) s call outer
  passes_within limits unspent f = grind (arith, no_fault)

-- ---- a job that returns

-- it is verified, and returns
record Returns (task : Task) : Type 0 where
  verified : IsVerified task
  is_return : IsReturn (outcome task)

-- its next instruction is executed
record Executing (task : Task) (s : State) : Type 0 where
  call : Active
  outer : List Active
  passes : Passes task s call outer

-- at each state in which it runs
executing : NeverStuck → EndIsOwn → (task : Task) → Returns task → (n : ℕ) (s : State) →
    state_after task n ≡ Running s → Executing task s
executing stuck own task r n s e =
    let h = goes task s in
    let back = r.is_return in
    grind (arith, own task (suc n), stuck r.verified.0 task r.verified.1 (suc n))

-- ---- the most of a number

most_reached : (f : Progress → ℕ) (task : Task) (n last : ℕ) → n ≤ last →
    f (state_after task n) ≤ most_until f task last
most_reached f task n last h =
    le_ind (λ i. f (state_after task n) ≤ most_until f task i) (grind (arith, le-max_right))
    (λ i k less. grind (arith, le-max_left)) last h

most_within : (f : Progress → ℕ) (task : Task) (limit : ℕ) → ((n : ℕ) → f (state_after task n) ≤ limit) → (n : ℕ) →
    most_until f task n ≤ limit
most_within f task limit each zero = each zero
most_within f task limit each (suc n) = max-le (most_within f task limit each n) (each (suc n))

most_same : (f : Progress → ℕ) (old new : Task) → ((n : ℕ) → state_after new n ≡ state_after old n) → (n : ℕ) →
    most_until f new n ≡ most_until f old n
most_same f old new same zero = ap f (same zero)
most_same f old new same (suc n) = (λ i. max (most_same f old new same n i) (f (same (suc n) i)))

-- ---- enough limits

module _ (stuck : NeverStuck) (reaches : Reaches) (ends : EachEnds) (own : EndIsOwn) where
  module _ (task : Task) (r : Returns task) (n : ℕ) (s : State) (e : state_after task n ≡ Running s) (call : Active)
      (outer : List Active) (p : Passes task s call outer) where
    next : state_after task (suc n) ≡ past task s call outer
    next = ap (progress_from task) e ∙ passes_past task s call outer p

    counted : (s.executed + 1 ≤ executed_count task) × (max s.peak (words_at task.rule (item_of call) s) ≤ peak task)
    counted =
        counted_whole ends task r.verified _ _ (suc n)
        (omega (arith, (reaches r.verified.0 task r.verified.1 n s e).budget)) (rw next (counted_past task.rule _ _ s
        (item_of call) (calls_then task s call outer) (omega arith) (omega arith)))

    within_count : suc n ≤ executed_count task
    within_count = omega (arith, (reaches r.verified.0 task r.verified.1 n s e).count, counted.0)

    most_after : (f : Progress → ℕ) → f (past task s call outer) ≤ most_until f task (executed_count task)
    most_after f = rw next at (most_reached f task (suc n) (executed_count task) within_count)

    fits_within : (limits : Limits) → AreEnough task limits → Fits limits (op_of (item_of call))
        (words_at task.rule (item_of call) s) (depth_after (op_of (item_of call)) (length s.stack)) (length s.calls)
    unfolding most_cells most_calls
    fits_within limits enough =
        grind (arith, common_steps, counted, most_reached, within_count, most_after)

  same_step : (task : Task) → Returns task → (limits : Limits) → AreEnough task limits → (n : ℕ) (s : State) →
      state_after task n ≡ Running s → next_progress (with_limits limits task) s ≡ next_progress task s
  same_step task r limits enough n s e =
      let x = executing stuck own task r n s e in
      let c = counted task r n s e x.call x.outer x.passes in
      let unspent : eqb s.executed limits.budget ≡ false = let most = enough.budget in grind arith in
      let passes = passes_within task s x.call x.outer x.passes limits unspent
      (fits_within task r n s e x.call x.outer x.passes limits enough) in
      passes_past (with_limits limits task) s x.call x.outer passes ∙ sym (passes_past task s x.call x.outer x.passes)

  -- ---- runs that are alike

  same_states : (task : Task) (limits : Limits) → ((n : ℕ) (s : State) → state_after task n ≡ Running s →
      state_after (with_limits limits task) n ≡ Running s → next_progress (with_limits limits task) s ≡ next_progress
      task s) → (n : ℕ) → state_after (with_limits limits task) n ≡ state_after task n
  same_states task limits step zero = refl
  same_states task limits step (suc n) = grind (arith, (same_states task limits step n))

  alike_by : (task : Task) → IsVerified task → (limits : Limits) →
      ((n : ℕ) → state_after (with_limits limits task) n ≡ state_after task n) → RunAlike task (with_limits limits task)
  unfolding whole_run most_cells most_calls
  alike_by task v limits same = grind (arith, most_same)

  enough_alike : (task : Task) → Returns task → (limits : Limits) → AreEnough task limits →
      RunAlike task (with_limits limits task)
  enough_alike task r limits enough =
      alike_by task r.verified limits (same_states task limits (λ n s e _. same_step task r limits enough n s e))

  -- ---- limits within which the job returns

  both_step : (task : Task) (limits : Limits) → Returns task → Returns (with_limits limits task) → (n : ℕ) (s : State) →
      state_after task n ≡ Running s → state_after (with_limits limits task) n ≡ Running s →
      next_progress (with_limits limits task) s ≡ next_progress task s
  both_step task limits r w n s e f =
      let x = executing stuck own task r n s e in
      let y = executing stuck own (with_limits limits task) w n s f in
      let past = passes_past task s x.call x.outer x.passes in
      let other = passes_past (with_limits limits task) s y.call y.outer y.passes in grind arith

  uses_within : (task : Task) → IsVerified task → AreEnough task task.limits
  unfolding most_cells most_calls
  uses_within task v =
      let cells : (n : ℕ) → cells_in (state_after task n) ≤ task.limits.cells =
      λ n. grind (arith, reaches v.0 task v.1 n) in
      let calls : (n : ℕ) → calls_in (state_after task n) ≤ task.limits.calls =
      λ n. grind (arith, reaches v.0 task v.1 n) in grind (arith, most_within, ends v.0 task v.1)

  returning_enough : (task : Task) → Returns task → (limits : Limits) → IsReturn (outcome (with_limits limits task)) →
      AreEnough task limits
  returning_enough task r limits back =
      let new = with_limits limits task in
      let w : Returns new = record { verified = r.verified; is_return = back } in
      let alike = alike_by task r.verified limits (same_states task limits (both_step task limits r w)) in
      let used = uses_within new r.verified in
      grind arith

  pub used_are_least : UsedAreLeast
  used_are_least task v back limits =
      let r : Returns task = record { verified = v; is_return = back } in
      (enough_alike task r limits, returning_enough task r limits)
