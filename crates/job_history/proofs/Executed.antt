-- What an instruction that a job executes makes of the words of its entries.
use Rattle.std.proofs.Common.{◌≡◌, ℕ, Bool, true, false, cond, List, [], ◌∷◌, length, map, Option}
use Rattle.std.proofs.Common.{refl, sym, ◌∙◌, arith}
use Rattle.std.specs.Prelude.{◌==◌, reverse}
use Rattle.std.proofs.lemmas.Bool.{false≢true}
use Rattle.std.proofs.lemmas.Bool.Decides.{nat_tests}
use Rattle.std.proofs.lemmas.List.{drop-map, length-map, map-append, reverse-append, take-map}
use Rattle.vcode_base.specs.declared.fault.DataFault.{DataFault}
use Rattle.vcode_base.specs.declared.op.Op.{Op}
use Rattle.vcode_base.specs.declared.outcome.Outcome.TheVariants.{Budget}
use Rattle.vcode_base.specs.declared.rule.Rule.{Rule}
use Rattle.vcode_base.specs.Instructions.{op_of}
use Rattle.vcode_base.specs.Meaning.{value_fault}
use Rattle.vcode_reader.specs.declared.line.Numbered.{Numbered}
use Rattle.vcode_reader.specs.Trees.{Body, Item}
use Rattle.verifier.specs.Typed.{TypedProgram}
use Rattle.job_steps.specs.Frames.{first_line, instruction_in, next_line}
use Rattle.job_steps.specs.Motions.{stack_after}
use Rattle.job_steps.specs.Runs.{progress_from}
use Rattle.job_steps.specs.States.{Active, StackEntry, State, Task, new_entries, words_of}
use Rattle.job_steps.specs.Steps.{Ending, Progress, Running, Over, Stuck, calls_after, can_run, early_ending}
use Rattle.job_steps.specs.Steps.{first_item, flag_of, next_item, next_progress, progress_at, progress_by, progress_in}
use Rattle.job_steps.specs.Steps.{progress_unless, question_of, results_of, sources_of}
use Rattle.job_profile.specs.Walks.{first_next_line, goes_on, lists_in}
use Rattle.job_history.specs.Nexts.{Follows, IsExecuted, IsMoveDeep, next_in, next_of}

-- ---- what is kept of each entry moves as the entries do

map_reverse : {X Y : Type 0} (f : X → Y) (xs : List X) → map f (reverse xs) ≡ reverse (map f xs)
map_reverse f [] = refl
map_reverse f (x ∷ xs) =
    grind (arith, reverse-append (x ∷ []) xs, reverse-append (f x ∷ []) (map f xs), map-append, (map_reverse f xs))

stack_map : {X Y : Type 0} (f : X → Y) (o : Op) (news xs : List X) →
    map f (stack_after o news xs) ≡ stack_after o (map f news) (map f xs)
stack_map f o news xs = grind (arith, map-append, map_reverse, take-map, drop-map)

-- ---- an instruction that is executed

deep : (verified : TypedProgram) (item : Item) (stack : List StackEntry) → can_run verified item stack ≡ true →
    IsMoveDeep (op_of item) (length (words_of stack))
deep verified item stack can = grind (arith, nat_tests, length-map)

past : (can : Bool) (end : Option Ending) (fault : Option DataFault) (rule : Rule) (line : Numbered Item) (s : State)
    (calls : List Active) →
    goes_on (cond can (progress_unless end s (progress_by rule fault line s calls)) Stuck) ≡ true →
    (can ≡ true) × (lists_in (cond can (progress_unless end s (progress_by rule fault line s calls)) Stuck)
    ≡ words_of (stack_after (op_of line.item)
    (new_entries s.next (results_of (question_of line.item s.stack))) s.stack))
past can end fault rule line s calls on = grind arith

at_line : (task : Task) (s : State) (line : Numbered Item) (number : ℕ) (calls : List Active) →
    goes_on (progress_at task line s calls) ≡ true → IsExecuted (record { op = op_of line.item; line = number })
    (words_of s.stack) (lists_in (progress_at task line s calls))
at_line task s line number calls on =
    let news = new_entries s.next (results_of (question_of line.item s.stack)) in
    let fault = value_fault (op_of line.item) (sources_of line.item s.stack) in
    let gone =
    past (can_run task.verified line.item s.stack) (early_ending task line s) fault task.rule line s calls on in
    record {
      results = words_of news;
      is = gone.1 ∙ stack_map (λ (e : StackEntry). e.value.words) (op_of line.item) news s.stack;
      deep = deep task.verified line.item s.stack gone.0;
    }

item_by : (rest : Body) (ret : ℕ) → (first_item rest ret).item ≡ instruction_in (first_line rest ret).item
item_by rest ret = grind arith

in_calls : (task : Task) (s : State) (calls : List Active) → goes_on (progress_in task s calls) ≡ true →
    Follows (next_of (first_next_line calls)) (words_of s.stack) (lists_in (progress_in task s calls))
in_calls task s [] on = absurd (false≢true on)
in_calls task s (call ∷ outer) on =
    let flag = flag_of (question_of (next_item call).item s.stack) in
    rw (← item_by call.rest call.ret) (at_line task s (next_item call) (next_line call).number
    (calls_after task.verified flag call.rest call.ret outer) on)

in_budget : (task : Task) (s : State) (spent : Bool) (end : Progress) → goes_on end ≡ false →
    goes_on (cond spent end (progress_in task s s.calls)) ≡ true →
    Follows (next_in (Running s)) (words_of s.stack) (lists_in (cond spent end (progress_in task s s.calls)))
in_budget task s true end over on = absurd (false≢true (sym over ∙ on))
in_budget task s false end over on = in_calls task s s.calls on

-- a job that goes on after its next instruction has executed it
pub executed_by : (task : Task) (p : Progress) → goes_on p ≡ true → goes_on (progress_from task p) ≡ true →
    Follows (next_in p) (lists_in p) (lists_in (progress_from task p))
unfolding next_progress
executed_by task (Running s) on after =
    in_budget task s (s.executed == task.limits.budget) (Over Budget s.executed s.peak) refl after
executed_by task (Over ending executed peak) on after = absurd (false≢true on)
executed_by task Stuck on after = absurd (false≢true on)
