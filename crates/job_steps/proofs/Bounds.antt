-- What holds of each state that a job reaches, whatever its program: counts and words within the limits, and tags.
use Rattle.std.proofs.Common.{◌≡◌, ℕ, ◌+◌, ◌<◌, ◌≤◌, max, true, List, [], ◌∷◌, length, get_or, Option, None, subst}
use Rattle.std.proofs.Common.{arith, zero, suc}
use Rattle.std.specs.Prelude.{All}
use Rattle.std.proofs.lemmas.List.Elements.{All-nil, All-weaker}
use Rattle.vcode_base.specs.declared.fault.DataFault.{DataFault}
use Rattle.vcode_base.specs.declared.fault.MemoryFault.{MemoryFault}
use Rattle.vcode_base.specs.declared.limits.Limits.{Limits}
use Rattle.vcode_base.specs.declared.op.Op.{Op}
use Rattle.vcode_base.specs.declared.outcome.Outcome.{Outcome}
use Rattle.vcode_base.specs.declared.rule.Rule.{Rule}
use Rattle.vcode_base.specs.Instructions.{op_of}
use Rattle.vcode_base.specs.Laws.{ResultsHaveNeededLengths}
use Rattle.vcode_base.specs.Meaning.{shape}
use Rattle.vcode_reader.specs.Trees.{Item}
use Rattle.job_steps.specs.Motions.{stack_after, depth_after}
use Rattle.job_steps.specs.Reached.{AreAlike}
use Rattle.job_steps.specs.Runs.{progress_from, state_after}
use Rattle.job_steps.specs.States.{Vector, Task, StackEntry, Active, State, held_words, new_entries}
use Rattle.job_steps.specs.Steps.{Progress, Running, Over, next_item, sources_of, question_of, results_of, words_at}
use Rattle.job_steps.specs.Steps.{is_call, memory_fault, ending_by, next_progress}
use Rattle.job_steps.proofs.Held.{Agree}
use Rattle.job_steps.proofs.Progresses.{item_of, calls_then, Passes, goes}
use Rattle.job_steps.proofs.StackLemmas.{deep_of, All-stack_after, length-stack_after, held_after, total_results}

-- ---- the checks before an instruction

pub record Fits (limits : Limits) (op : Op) (words depth calls : ℕ) : Type 0 where
  pub words_fit : words ≤ limits.words
  pub cells_fit : depth ≤ limits.cells
  pub calls_fit : is_call op ≡ true → calls + 1 ≤ limits.calls

pub fits : (limits : Limits) (op : Op) (words depth calls : ℕ) → memory_fault limits op words depth calls ≡ None →
    Fits limits op words depth calls
unfolding memory_fault
fits limits op words depth calls e = grind arith

pub neither : (line : ℕ) (a : Option DataFault) (b : Option MemoryFault) → ending_by line a b ≡ None →
    (a ≡ None) × (b ≡ None)
neither line a b e = grind arith

pub shaped : (task : Task) (s : State) (call : Active) (outer : List Active) → Passes task s call outer →
    shape (op_of (item_of call)) (sources_of (item_of call) s.stack) ≡ None
shaped task s call outer p = (neither (next_item call).number _ _ p.early).0

pub fits_at : (task : Task) (s : State) (call : Active) (outer : List Active) → Passes task s call outer →
    Fits task.limits (op_of (item_of call)) (words_at task.rule (item_of call) s)
    (depth_after (op_of (item_of call)) (length s.stack)) (length s.calls)
fits_at task s call outer p = fits task.limits _ _ _ _ (neither (next_item call).number _ _ p.early).1

-- ---- the calls afterwards

-- ---- new entries

tags_below : (next : ℕ) (vs : List Vector) → All (λ e. e.tag < next + length vs) (new_entries next vs)
tags_below next [] = All-nil (λ e. e.tag < next + 0)
tags_below next (v ∷ vs) = grind (arith, (tags_below (next + 1) vs))

tags_from : (next : ℕ) (vs : List Vector) → All (λ e. next ≤ e.tag) (new_entries next vs)
tags_from next [] = All-nil (λ e. next ≤ e.tag)
tags_from next (v ∷ vs) = grind (arith, (tags_from (next + 1) vs))

new_agree : (next : ℕ) (vs : List Vector) → Agree (new_entries next vs)
new_agree next [] = All-nil (λ e. All (AreAlike e) [])
new_agree next (v ∷ vs) = grind (arith, tags_from, (new_agree (next + 1) vs))

agree_after : (op : Op) (rs xs : List StackEntry) → Agree rs →
    ((k : ℕ) (d : StackEntry) → k < length rs → All (AreAlike (get_or rs k d)) xs) →
    ((k : ℕ) (d : StackEntry) → k < length xs → All (AreAlike (get_or xs k d)) rs) → Agree xs →
    Agree (stack_after op rs xs)
agree_after op rs xs rr rx xr xx =
    All-stack_after (λ x. All (AreAlike x) (stack_after op rs xs)) op rs xs
    (λ k d h. All-stack_after (AreAlike (get_or rs k d)) op rs xs (rr k d h) (rx k d h))
    (λ k d h. All-stack_after (AreAlike (get_or xs k d)) op rs xs (xr k d h) (xx k d h))

-- ---- states

pub record IsBounded (task : Task) (n : ℕ) (s : State) : Type 0 where
  pub count : s.executed ≡ n
  pub budget : n ≤ task.limits.budget
  pub tags : All (λ e. e.tag < s.next) s.stack
  pub alike : Agree s.stack
  pub words : held_words s.stack ≤ task.limits.words
  pub held : held_words s.stack ≤ s.peak
  pub highest : s.peak ≤ task.limits.words
  pub cells : length s.stack ≤ task.limits.cells
  pub calls : length s.calls ≤ task.limits.calls

-- the state after an instruction
abbrev pub state_past : Rule → Item → State → List Active → State
state_past rule item s calls = record {
  stack = stack_after (op_of item) (new_entries s.next (results_of (question_of item s.stack))) s.stack;
  calls = calls;
  executed = s.executed + 1;
  next = s.next + length (results_of (question_of item s.stack));
  peak = max s.peak (words_at rule item s);
}

bounded_past : ResultsHaveNeededLengths → (task : Task) (n : ℕ) (s : State) (call : Active) (outer : List Active) →
    IsBounded task n s → Passes task s call outer → IsBounded task (n + 1)
    (state_past task.rule (item_of call) s (calls_then task s call outer))
bounded_past law task n s call outer b p =
    let op = op_of (item_of call) in
    let results = results_of (question_of (item_of call) s.stack) in
    let new = new_entries s.next results in
    let fit = fits_at task s call outer p in
    let deep = deep_of task.verified (item_of call) s.stack p.runs in
    let old : (k : ℕ) (d : StackEntry) → k < length s.stack → (get_or s.stack k d).tag < s.next = b.tags in
    let young : (k : ℕ) (d : StackEntry) → k < length new → s.next ≤ (get_or new k d).tag = tags_from s.next results in
    let total = total_results law s.next (item_of call) s.stack deep (shaped task s call outer p) p.late in
    let after = held_after task.rule (item_of call) new s b.alike in
    let tags = All-stack_after (λ e. e.tag < s.next + length results) op new s.stack (tags_below s.next results)
    (All-weaker (λ e. e.tag < s.next) (λ e. e.tag < s.next + length results) (λ e h. omega arith) s.stack b.tags) in
    let alike = agree_after op new s.stack (new_agree s.next results)
    (λ k d h j f g. λ e. absurd (omega (arith, young k d h, old j f g)))
    (λ k d h j f g. λ e. absurd (omega (arith, young j f g, old k d h))) b.alike in
    grind (arith, length-stack_after)

-- ---- runs

pub over_running : (ending : Outcome (List Vector)) (x p : ℕ) (s : State) → Over ending x p ≡ Running s → ⊥
over_running ending x p s e = cc

pub running_from : (task : Task) (p : Progress) (s : State) → progress_from task p ≡ Running s →
    (t : State) × (p ≡ Running t) × (next_progress task t ≡ Running s)
running_from task p s e = grind arith

-- a step that goes on
pub record Went (task : Task) (s next : State) : Type 0 where
  pub call : Active
  pub outer : List Active
  pub passes : Passes task s call outer
  pub last : Active
  pub others : List Active
  pub calls : calls_then task s call outer ≡ last ∷ others
  pub new : state_past task.rule (item_of call) s (last ∷ others) ≡ next

pub went : (task : Task) (s next : State) → next_progress task s ≡ Running next → Went task s next
went task s next e = let h = goes task s in grind arith

pub bounded_next : ResultsHaveNeededLengths → (task : Task) (n : ℕ) (s next : State) → IsBounded task n s →
    Went task s next → IsBounded task (n + 1) next
bounded_next law task n s next b w = rw (w.calls, w.new) at (bounded_past law task n s w.call w.outer b w.passes)

-- each state that any job reaches is so
pub bounded : ResultsHaveNeededLengths → (task : Task) (n : ℕ) (s : State) → state_after task n ≡ Running s →
    IsBounded task n s
bounded law task zero s e = grind arith
bounded law task (suc n) s e =
    let from = running_from task (state_after task n) s e in
    subst (λ k. IsBounded task k s) (omega arith)
    (bounded_next law task n from.0 s (bounded law task n from.0 from.1) (went task from.0 s from.2))
