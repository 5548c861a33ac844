-- A program n lines further on runs as before, and ends n lines further on.
use Rattle.std.proofs.Common.{◌≡◌, ◌+◌, ℕ, zero, suc, Bool, List, [], ◌∷◌, refl, ap, ◌∙◌, arith, Option}
use Rattle.std.specs.Prelude.{cond, map, not, option_map, position}
use Rattle.std.specs.Prelude.{if◌then◌else◌}
use Rattle.std.specs.List.{position_or_len}
use Rattle.std.specs.Str.{bytes_eq}
use Rattle.std.proofs.lemmas.Option.{slice_get-map}
use Rattle.std.proofs.lemmas.List.{length-map}
use Rattle.vcode_base.specs.declared.fault.DataFault.{DataFault}
use Rattle.vcode_base.specs.declared.fault.MemoryFault.{MemoryFault}
use Rattle.vcode_base.specs.declared.outcome.Outcome.{Outcome}
use Rattle.vcode_base.specs.declared.outcome.Outcome.TheVariants.{Budget}
use Rattle.vcode_base.specs.declared.rule.Rule.{Rule}
use Rattle.vcode_base.specs.Instructions.{op_of}
use Rattle.vcode_base.specs.Meaning.{value_fault}
use Rattle.vcode_reader.specs.declared.line.Numbered.{Numbered}
use Rattle.vcode_reader.specs.Decode.{then_body}
use Rattle.vcode_reader.specs.Trees.{Item, Body, End, Do, Choice, Function}
use Rattle.signatures.specs.Signatures.{FunctionType}
use Rattle.verifier.specs.Typed.{TypedProgram}
use Rattle.job_steps.specs.Runs.{ending_in, executed_count, executed_count_in, outcome, peak, peak_in, progress_from}
use Rattle.job_steps.specs.Runs.{state_after, whole_run}
use Rattle.job_steps.specs.States.{Active, Callee, StackEntry, State, Task, Vector, callee_at, callee_named, callee_of}
use Rattle.job_steps.specs.States.{calls_with, first_state}
use Rattle.job_steps.specs.Steps.{Over, Progress, Running, Stuck, calls_after, calls_past, can_call, can_run}
use Rattle.job_steps.specs.Steps.{early_ending}
use Rattle.job_steps.specs.Steps.{ending_by, first_item, next_progress, progress_at}
use Rattle.job_steps.specs.Steps.{progress_by, progress_in, progress_past, progress_unless, sources_of}
use Rattle.job_steps.specs.Steps.{words_at}
use Rattle.report_laws.specs.MovedCode.{moved_body, moved_function, moved_outcome, moved_task, moved_typed}
use Rattle.report_laws.specs.Laws.{RunsMove}

-- ---- functions by their names

abbrev is_named : List ℕ → Function → Bool
is_named name f = bytes_eq f.name name

same_prefix : (n : ℕ) (name : List ℕ) (fs : List Function)
    → position_or_len (is_named name) (map (moved_function n) fs) ≡ position_or_len (is_named name) fs
same_prefix n name [] = refl
same_prefix n name (f ∷ fs) = ap (λ (k : ℕ). cond (not (is_named name f)) (1 + k) 0) (same_prefix n name fs)

pub same_position : (n : ℕ) (name : List ℕ) (fs : List Function)
    → position (λ (f : Function). bytes_eq f.name name) (map (moved_function n) fs)
    ≡ position (λ (f : Function). bytes_eq f.name name) fs
same_position n name fs = grind (arith, same_prefix, length-map)

abbrev active : Body → ℕ → Active
active b ret = record { rest = b; ret = ret }

module _ (n : ℕ) where
  abbrev moved_item : Numbered Item → Numbered Item
  moved_item line = record { item = line.item; number = line.number + n }

  abbrev moved_call : Active → Active
  moved_call call = record { rest = moved_body n call.rest; ret = call.ret + n }

  abbrev moved_callee : Callee → Callee
  moved_callee callee = record { function = moved_function n callee.function; arrow = callee.arrow }

  abbrev moved_state : State → State
  moved_state s = record s { calls = map moved_call s.calls }

  abbrev moved_progress : Progress → Progress
  moved_progress (Running s) = Running (moved_state s)
  moved_progress (Over ending executed peak) = Over (moved_outcome n ending) executed peak
  moved_progress Stuck = Stuck

  of_moved : (f : Option Function) (arrow : Option FunctionType)
      → callee_of (option_map (moved_function n) f) arrow ≡ option_map moved_callee (callee_of f arrow)
  of_moved f arrow = grind arith

  at_moved : (v : TypedProgram) (place : Option ℕ)
      → callee_at (moved_typed n v) place ≡ option_map moved_callee (callee_at v place)
  at_moved v place = grind (arith, slice_get-map, of_moved)

  named_moved : (v : TypedProgram) (name : List ℕ)
      → callee_named (moved_typed n v) name ≡ option_map moved_callee (callee_named v name)
  named_moved v name = grind (arith, same_position, at_moved)

  -- ---- calls

  with_moved : (callee : Option Callee) (calls : List Active)
      → calls_with (option_map moved_callee callee) (map moved_call calls) ≡ map moved_call (calls_with callee calls)
  with_moved callee calls = grind arith

  first_moved : (b : Body) (ret : ℕ) → first_item (moved_body n b) (ret + n) ≡ moved_item (first_item b ret)
  first_moved b ret = grind arith

  then_moved : (b c : Body) → then_body (moved_body n b) (moved_body n c) ≡ moved_body n (then_body b c)
  unfolding then_body
  then_moved End c = refl
  then_moved (Do item line rest) c = grind (arith, then_moved rest c)
  then_moved (Choice line first second end rest) c = grind (arith, then_moved rest c)

  past_moved : (v : TypedProgram) (item : Item) (call : Active) (outer : List Active)
      → calls_past (moved_typed n v) item (moved_call call) (map moved_call outer)
      ≡ map moved_call (calls_past v item call outer)
  past_moved v item call outer = grind (arith, named_moved, with_moved)

  chosen_moved : (flag : Bool) (first second : Body)
      → if flag then moved_body n first else moved_body n second ≡ moved_body n (if flag then first else second)
  chosen_moved flag first second = grind arith

  after_moved : (v : TypedProgram) (flag : Bool) (b : Body) (ret : ℕ) (outer : List Active)
      → calls_after (moved_typed n v) flag (moved_body n b) (ret + n) (map moved_call outer)
      ≡ map moved_call (calls_after v flag b ret outer)
  after_moved v flag End ret outer = refl
  after_moved v flag (Do item line rest) ret outer =
      past_moved v item (record { rest = rest; ret = ret }) outer
  after_moved v flag (Choice line first second end rest) ret outer =
      ap (λ (b : Body). active b (ret + n) ∷ map moved_call outer)
      (ap (λ (b : Body). then_body b (moved_body n rest)) (chosen_moved flag first second)
      ∙ then_moved (if flag then first else second) rest)

  -- ---- one instruction

  can_call_moved : (callee : Option Callee) (stack : List StackEntry)
      → can_call (option_map moved_callee callee) stack ≡ can_call callee stack
  can_call_moved callee stack = grind arith

  can_moved : (v : TypedProgram) (item : Item) (stack : List StackEntry)
      → can_run (moved_typed n v) item stack ≡ can_run v item stack
  can_moved v item stack = grind (arith, named_moved, can_call_moved)

  ending_moved : (line : ℕ) (fault : Option DataFault) (refusal : Option MemoryFault)
      → ending_by (line + n) fault refusal ≡ option_map (moved_outcome n) (ending_by line fault refusal)
  ending_moved line fault refusal = grind arith

  words_moved : (rule : Rule) (item : Item) (s : State) → words_at rule item (moved_state s) ≡ words_at rule item s
  words_moved rule item s = grind arith

  early_moved : (task : Task) (line : Numbered Item) (s : State)
      → early_ending (moved_task n task) (moved_item line) (moved_state s)
      ≡ option_map (moved_outcome n) (early_ending task line s)
  early_moved task line s = grind (arith, words_moved, length-map, ending_moved)

  unless_moved : (ending : Option (Outcome (List Vector))) (s : State) (p : Progress)
      → progress_unless (option_map (moved_outcome n) ending) (moved_state s) (moved_progress p)
      ≡ moved_progress (progress_unless ending s p)
  unless_moved ending s p = grind arith

  past_progress : (rule : Rule) (item : Item) (s : State) (calls : List Active)
      → progress_past rule item (moved_state s) (map moved_call calls)
      ≡ moved_progress (progress_past rule item s calls)
  past_progress rule item s calls = grind (arith, words_moved)

  by_moved : (rule : Rule) (fault : Option DataFault) (line : Numbered Item) (s : State) (calls : List Active)
      → progress_by rule fault (moved_item line) (moved_state s) (map moved_call calls)
      ≡ moved_progress (progress_by rule fault line s calls)
  by_moved rule fault line s calls = grind (arith, past_progress)

  if_moved : (b : Bool) (p : Progress)
      → if b then moved_progress p else Stuck ≡ moved_progress (if b then p else Stuck)
  if_moved b p = grind arith

  at_progress : (task : Task) (line : Numbered Item) (s : State) (calls : List Active)
      → progress_at (moved_task n task) (moved_item line) (moved_state s) (map moved_call calls)
      ≡ moved_progress (progress_at task line s calls)
  at_progress task line s calls =
      let fault : Option DataFault = value_fault (op_of line.item) (sources_of line.item s.stack) in
      let early : Option (Outcome (List Vector)) = early_ending task line s in
      ap (λ (b : Bool). if b then progress_unless (early_ending (moved_task n task) (moved_item line) (moved_state s))
      (moved_state s) (progress_by task.rule fault (moved_item line) (moved_state s) (map moved_call calls)) else Stuck)
      (can_moved task.verified line.item s.stack)
      ∙ ap (λ (p : Progress). if can_run task.verified line.item s.stack then p else Stuck)
      (ap (λ (e : Option (Outcome (List Vector))). progress_unless e (moved_state s)
      (progress_by task.rule fault (moved_item line) (moved_state s) (map moved_call calls)))
      (early_moved task line s)
      ∙ ap (progress_unless (option_map (moved_outcome n) early) (moved_state s))
      (by_moved task.rule fault line s calls)
      ∙ unless_moved early s (progress_by task.rule fault line s calls))
      ∙ if_moved (can_run task.verified line.item s.stack)
      (progress_unless early s (progress_by task.rule fault line s calls))

  in_moved : (task : Task) (s : State) (calls : List Active)
      → progress_in (moved_task n task) (moved_state s) (map moved_call calls)
      ≡ moved_progress (progress_in task s calls)
  in_moved task s calls = grind (arith, first_moved, after_moved, at_progress)

  over_moved : (b : Bool) (s : State) (p : Progress)
      → if b then Over Budget s.executed s.peak else moved_progress p
      ≡ moved_progress (if b then Over Budget s.executed s.peak else p)
  over_moved b s p = grind arith

  next_moved : (task : Task) (s : State)
      → next_progress (moved_task n task) (moved_state s) ≡ moved_progress (next_progress task s)
  unfolding next_progress
  next_moved task s = grind (arith, in_moved, over_moved)

  -- ---- a whole run

  from_moved : (task : Task) (p : Progress)
      → progress_from (moved_task n task) (moved_progress p) ≡ moved_progress (progress_from task p)
  from_moved task p = grind (arith, next_moved)

  first_state_moved : (v : TypedProgram) → first_state (moved_typed n v) ≡ moved_state (first_state v)
  first_state_moved v = grind (arith, named_moved, with_moved)

  after_steps : (task : Task) (count : ℕ)
      → state_after (moved_task n task) count ≡ moved_progress (state_after task count)
  after_steps task zero = grind (arith, first_state_moved)
  after_steps task (suc count) = grind (arith, from_moved, after_steps task count)

  whole_moved : (task : Task) → whole_run (moved_task n task) ≡ moved_progress (whole_run task)
  unfolding whole_run
  whole_moved task = after_steps task (task.limits.budget + 1)

  ending_in_moved : (p : Progress) → ending_in (moved_progress p) ≡ moved_outcome n (ending_in p)
  ending_in_moved p = grind arith

  executed_in_moved : (p : Progress) → executed_count_in (moved_progress p) ≡ executed_count_in p
  executed_in_moved p = grind arith

  peak_in_moved : (p : Progress) → peak_in (moved_progress p) ≡ peak_in p
  peak_in_moved p = grind arith

pub runs_move : RunsMove
unfolding outcome executed_count peak
runs_move = grind (arith, whole_moved, ending_in_moved, executed_in_moved, peak_in_moved)
