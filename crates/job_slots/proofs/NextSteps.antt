-- A job's next instruction: what is read of it, what it needs, and what ends the job before it.
use Rattle.std.proofs.Common.{◌≡◌, ℕ, ℤ, List, ◌∷◌, Some, ◌∙◌, ap, arith, ◌≤◌, false, length, map, refl, rules, ◌+◌}
use Rattle.std.proofs.Common.{ltb, min, [], Option, None, sym, subst}
use Rattle.vcode_base.specs.declared.op.Op.{Op}
use Rattle.vcode_base.specs.Instructions.{op_of}
use Rattle.vcode_base.specs.Kinds.{HaveKinds, source_kinds}
use Rattle.vcode_reader.specs.Trees.{CodeLine, Item, Function}
use Rattle.job_steps.specs.EventLaws.{IsVerified, EarlyEndsEnd}
use Rattle.job_steps.specs.Events.{early_end}
use Rattle.job_steps.specs.Runs.{state_after}
use Rattle.job_steps.specs.States.{Task, Active, State, StackEntry, words_of, held_words as stack_words}
use Rattle.job_steps.specs.Steps.{Running, next_item, question_of, sources_of, Ending, ending_by, memory_fault, held_at}
use Rattle.job_steps.specs.StepLaws.{CanBegin, StepsCanBegin, StepsCanAdvance}
use Rattle.job_steps.specs.Tracks.{TrackState, IsAt, functions_of}
use Rattle.refcounts.specs.SharedState.{Slot, AreLive, slot_at, IsTidy}
use Rattle.job_slots.specs.Slots.{IsRunningSlot, IsReturned}
use Rattle.job_slots.specs.Answers.{question_before, question_in, question_at, line_before, line_in, line_at}
use Rattle.job_slots.specs.Answers.{early_end_of, early_end_at, IsNext, demand_before, demand_in, IsEnding, CanAsk}
use Rattle.job_slots.specs.Answers.{IsAnswered, told_demand, told_demand_before, told_demand_in, told_need_in}
use Rattle.job_slots.specs.Lines.{IsLineOf, IsOpOfNext, HasNoOperands, IsListOfNext}
use Rattle.std.proofs.lemmas.Bool.Decides.{nat_tests}
use Rattle.vcode_reader.specs.declared.line.Numbered.{Numbered}
use Rattle.job_memory.specs.JobBlocks.{JobBlocks, own_slots, AreOwn, held_words}
use Rattle.job_steps.specs.Frames.{instruction_in, StandAll}
use Rattle.job_steps.specs.Motions.{operand_count, top_entries, depth_after}
use Rattle.job_slots.specs.InPlace.{is_constant}
use Rattle.job_slots.proofs.Cells.{are_there}
use Rattle.job_slots.proofs.Stacks.{deep_enough, length_by_kinds}
use Rattle.std.specs.Prelude.{option_map}
use Rattle.std.proofs.lemmas.Option.{none-some}
use Rattle.vcode_base.specs.declared.fault.DataFault.{DataFault}
use Rattle.vcode_base.specs.declared.fault.MemoryFault.{MemoryFault}
use Rattle.vcode_base.specs.declared.limits.Limits.{Limits}
use Rattle.vcode_base.specs.declared.outcome.Outcome.TheVariants.{Budget}
use Rattle.vcode_base.specs.Laws.{ResultsHaveNeededLengths}
use Rattle.vcode_base.specs.Meaning.{shape, need, value_fault, result_of, second_result_of}
use Rattle.job_steps.specs.declared.flow.Flow.{Flow}
use Rattle.job_steps.specs.Flows.{flow_of}
use Rattle.job_steps.specs.declared.frame.Frame.{Frame}
use Rattle.job_steps.specs.Questions.{Question, need_words}
use Rattle.job_steps.specs.Tickets.{AreResults, question_by}
use Rattle.job_slots.specs.Commits.{CountsAs, held_under, taken_ids}
use Rattle.job_slots.specs.Executions.{IsCounted, HeldIsCounted}
use Rattle.job_slots.specs.declared.ticket.EarlyFault.{EarlyFault}
use Rattle.job_slots.specs.declared.ticket.Needs.{Needs}
use Rattle.job_slots.specs.Needs.{IsReady, early_fault, ending_of, words_with}
use Rattle.std.proofs.lemmas.Grind.{common_steps}
use Rattle.vcode_base.specs.declared.rule.Rule.TheVariants.{First}
use Rattle.vcode_reader.specs.Pools.{list_in}
use Rattle.job_steps.specs.Reached.{IsReached, Reaches}
use Rattle.vcode_base.specs.declared.op.Op.TheVariants as op

-- ======== a job that runs: its next instruction, and what ends the job before it

-- ---- the definitions at a state at which the job runs

pub question_when : (task : Task) (n : ℕ) (s : State) (call : Active) (outer : List Active) →
    state_after task n ≡ Running s → s.calls ≡ call ∷ outer →
    question_at task n ≡ Some (question_of (next_item call).item s.stack)
unfolding question_at
question_when task n s call outer runs calls = ap question_in runs ∙ ap (question_before s) calls

pub line_when : (task : Task) (n : ℕ) (s : State) (call : Active) (outer : List Active) →
    state_after task n ≡ Running s → s.calls ≡ call ∷ outer → line_at task n ≡ Some (next_item call).number
unfolding line_at
line_when task n s call outer runs calls = ap line_in runs ∙ ap line_before calls

pub early_end_when : (task : Task) (n : ℕ) (s : State) → state_after task n ≡ Running s →
    early_end_at task n ≡ early_end task s
unfolding early_end_at
early_end_when task n s runs = ap (early_end_of task) runs

-- ---- the next instruction

-- a job that runs can begin its next step
pub can_begin : StepsCanBegin ℕ → (slots : List Slot) (task : Task) (t : TrackState ℕ)
    (run : IsRunningSlot slots task t) → IsVerified task → CanBegin task t.executed run.state t
can_begin law slots task t run verified = law verified.0 task verified.1 t.executed run.state t run.running run.at

pub record IsKindly (task : Task) (n : ℕ) (op : Op) (sources : List (List ℤ)) : Type 0 where
  pub next : IsNext task n op sources
  pub kinds : HaveKinds (source_kinds op) sources

-- it is this one, with the operands at the top of the stack
pub is_next : (task : Task) (t : TrackState ℕ) (s : State) (op : Op) (sources : List (List ℤ)) →
    state_after task t.executed ≡ Running s → (can : CanBegin task t.executed s t) → (item : Item) →
    (next_item can.call).item ≡ item → op ≡ op_of item → sources ≡ sources_of item s.stack →
    IsKindly task t.executed op sources
is_next task t s op sources runs can item same op_is sources_are = grind (arith, question_when)

-- the line of the next instruction
pub line_is : (task : Task) (t : TrackState ℕ) (s : State) (line : CodeLine) → state_after task t.executed ≡ Running s →
    CanBegin task t.executed s t → IsLineOf task t line → line_at task t.executed ≡ Some line.number
line_is task t s line runs can is_line = grind (arith, line_when, is_line can.call can.outer can.stands)

-- ======== what is read of a job's next instruction

-- what an instruction reads from the stack
pub read_on_top : (item : Item) (stack : List StackEntry) → is_constant (op_of item) ≡ false →
    sources_of item stack ≡ words_of (top_entries (operand_count (op_of item)) stack)
read_on_top item stack reads = grind arith

-- the operands of an instruction are there, and with them it is read
pub record IsRead (blocks : JobBlocks) (task : Task) (t : TrackState ℕ) (op : Op) (item : Item) : Type 0 where
  pub deep : operand_count op ≤ length t.cells
  pub live : AreLive blocks.memory t.cells
  pub read : (sources : List (List ℤ)) → ((stack : List StackEntry) →
      map (λ id. (slot_at blocks.memory id).words) t.cells ≡ words_of stack → sources ≡ sources_of item stack) →
      IsKindly task t.executed op sources

module _ (law : StepsCanBegin ℕ) (number : ℕ) (blocks : JobBlocks) (task : Task) (t : TrackState ℕ)
    (run : IsRunningSlot (own_slots number blocks) task t) (verified : IsVerified task) where
  begun : CanBegin task t.executed run.state t
  begun = can_begin law (own_slots number blocks) task t run verified

  of_item : (op : Op) (item : Item) → (next_item begun.call).item ≡ item → op ≡ op_of item →
      IsRead blocks task t op item
  of_item op item same op_is =
      let there = are_there number blocks.memory t.cells run.state.stack run.holds in
      grind (arith, nat_tests, deep_enough, begun, is_next)

  -- that of a line
  pub of_line : (line : CodeLine) (op : Op) → IsLineOf task t line → op ≡ op_of (instruction_in line.item) →
      IsRead blocks task t op (instruction_in line.item)
  of_line line op is = of_item op _ (ap (λ (x : Numbered Item). x.item) (is begun.call begun.outer begun.stands))

  -- that which is the next
  pub of_op : (op : Op) → IsOpOfNext task t op → (item : Item) × (op ≡ op_of item) × IsRead blocks task t op item
  of_op op is =
      let same = is begun.call begun.outer begun.stands in
      ((next_item begun.call).item, same, of_item op _ refl same)

-- ======== what ends a job that runs before its next instruction

-- ---- a limit, with words that are counted up to the greatest number

pub same_by : (limits : Limits) (op : Op) (many few : ℕ) (depth calls : ℕ) →
    ltb limits.words many ≡ ltb limits.words few →
    memory_fault limits op many depth calls ≡ memory_fault limits op few depth calls
unfolding memory_fault
same_by limits op many few depth calls same = grind arith

same_test : (limit a b c most : ℕ) → limit + 1 ≤ most →
    ltb limit (min (min (a + b) most + c) most) ≡ ltb limit (a + (b + c))
same_test limit a b c most within = grind (arith, nat_tests)

-- the limit that an instruction would pass, counting words up to the greatest number
pub limit_fault : (limits : Limits) (op : Op) (sources : List (List ℤ)) (held depth calls sum words most : ℕ)
    (lengths : ℕ × ℕ) → lengths ≡ need op sources → sum ≡ min (held + lengths.0) most →
    words ≡ min (sum + lengths.1) most → limits.words + 1 ≤ most →
    memory_fault limits op words depth calls ≡ memory_fault limits op (held + need_words (question_by op sources)) depth
    calls
limit_fault limits op sources held depth calls sum words most lengths are first second within =
    grind (arith, same_by, same_test)

-- the words that are counted, which pass no limit, are those that are held and needed
pub all_counted : (limit held first second most sum words : ℕ) → sum ≡ min (held + first) most →
    words ≡ min (sum + second) most → limit + 1 ≤ most → words ≤ limit → words ≡ held + first + second
all_counted limit held first second most sum words sum_is words_is within few = omega arith

-- the ending at a line, by the first fault that there is
ending_at_line : (line : ℕ) (shaped : Option DataFault) (limit : Option MemoryFault) →
    ending_by line shaped limit ≡ option_map (λ fault. ending_of fault line) (early_fault shaped limit)
ending_at_line line shaped limit = search (rules)

-- ---- the end before an instruction, as the track and the blocks tell it

-- frames at calls are as many as the calls
as_many : (functions : List Function) (frames : List Frame) (calls : List Active) → StandAll functions frames calls →
    length frames ≡ length calls
as_many functions [] calls stand = grind arith
as_many functions (frame ∷ frames) calls stand = grind (arith, (as_many functions frames))

-- what is read is the next instruction's
pub same_question : (task : Task) (t : TrackState ℕ) (s : State) (op : Op) (sources : List (List ℤ)) →
    state_after task t.executed ≡ Running s → (can : CanBegin task t.executed s t) →
    IsNext task t.executed op sources → question_of (next_item can.call).item s.stack ≡ question_by op sources
same_question task t s op sources runs can next = grind (arith, question_when)

pub budget_end : (task : Task) (t : TrackState ℕ) (s : State) → state_after task t.executed ≡ Running s →
    IsAt task t s → t.executed ≡ t.limits.budget → early_end_at task t.executed ≡ Some Budget
budget_end task t s runs at spent = grind (arith, nat_tests, early_end_when task t.executed s runs)

pub early_end_is : (task : Task) (t : TrackState ℕ) (s : State) (op : Op) (sources : List (List ℤ)) (held : ℕ) →
    state_after task t.executed ≡ Running s → IsAt task t s → (can : CanBegin task t.executed s t) →
    IsNext task t.executed op sources → held ≡ held_at task.rule (next_item can.call).item s →
    (t.executed ≡ t.limits.budget → ⊥) → early_end_at task t.executed ≡ ending_by (next_item can.call).number
    (shape op sources) (memory_fault t.limits op (held + need_words (question_by op sources))
    (depth_after op (length t.cells)) (length t.frames))
early_end_is task t s op sources held runs at can next held_is unspent =
    let frames = as_many (functions_of task.verified) t.frames s.calls at.frames in
    let asked = same_question task t s op sources runs can next in
    grind (arith, nat_tests, early_end_when task t.executed s runs, frames, asked)

no_ending : (line : ℕ) (fault : Option DataFault) (refusal : Option MemoryFault) → ending_by line fault refusal ≡ None →
    (fault ≡ None) × (refusal ≡ None)
no_ending line fault refusal e = grind (arith, none-some)

pub within_words : (limits : Limits) (op : Op) (words depth calls : ℕ) →
    memory_fault limits op words depth calls ≡ None → words ≤ limits.words
unfolding memory_fault
within_words limits op words depth calls e = grind (arith, none-some)

-- if the next instruction was read
module _ (law : StepsCanBegin ℕ) (counted : HeldIsCounted) (number : ℕ) (blocks : JobBlocks) (task : Task)
    (t : TrackState ℕ) (run : IsRunningSlot (own_slots number blocks) task t) (verified : IsVerified task)
    (tidy : IsTidy blocks.memory)
    (op : Op) (sources : List (List ℤ)) (next : IsNext task t.executed op sources) where
  abbrev can : CanBegin task t.executed run.state t
  can = can_begin law (own_slots number blocks) task t run verified

  asked : question_of (next_item can.call).item run.state.stack ≡ question_by op sources
  asked = same_question task t run.state op sources run.running can next

  op_is : op_of (next_item can.call).item ≡ op
  op_is = ap (λ (q : Question). q.op) asked

  is_counted : IsCounted task.rule number blocks (next_item can.call).item run.state t.cells
  is_counted = counted task.rule number blocks (next_item can.call).item run.state t.cells run.holds tidy

  -- its operands are there, and the job's
  pub has_operands : (operand_count op ≤ length t.cells) × AreOwn number blocks (taken_ids op t.cells)
  has_operands = (grind (arith, op_is, deep_enough), rw (← op_is) is_counted.own)

  -- it has a line
  pub number_is : line_at task t.executed ≡ Some (next_item can.call).number
  number_is = line_when task t.executed run.state can.call can.outer run.running can.calls

  -- how the job ends before it, by what was read
  pub ends_with : (held line : ℕ) (early : Option EarlyFault) → held ≡ held_under task.rule number op t.cells blocks →
      (t.executed ≡ t.limits.budget → ⊥) → line_at task t.executed ≡ Some line → early_fault (shape op sources)
      (memory_fault t.limits op (held + need_words (question_by op sources)) (depth_after op (length t.cells))
      (length t.frames)) ≡ early → early_end_at task t.executed ≡ option_map (λ fault. ending_of fault line) early
  ends_with held line early held_here unspent at told =
      grind (arith, op_is, is_counted, number_is, ending_at_line, early_end_is task t run.state op sources held)

  -- ---- what it holds and needs

  module _ (held : ℕ) (held_here : held ≡ held_under task.rule number op t.cells blocks) where
    counts : held ≡ held_at task.rule (next_item can.call).item run.state
    counts = grind (arith, op_is, is_counted)

    -- what is answered of its words
    pub told_is : told_demand (shape op sources) held (need_words (question_by op sources))
        ≡ told_demand_in task.rule (state_after task t.executed)
    told_is =
        rw (counts, ← op_is, ← (ap (λ (q : Question). q.sources) asked))
        (sym (ap (told_demand_in task.rule) run.running ∙ ap (told_demand_before task.rule run.state) can.calls))

    -- which is its demand, if nothing ends the job before it
    pub demand_is : early_end_at task t.executed ≡ None → told_demand (shape op sources) held
        (need_words (question_by op sources)) ≡ demand_in task.rule (state_after task t.executed)
    demand_is none =
        let ending = early_end_is task t run.state op sources held run.running run.at can next counts
        (λ e. none-some _ (sym none ∙ budget_end task t run.state run.running run.at e)) in
        let both = no_ending _ (shape op sources) _ (sym ending ∙ none) in
        let few = within_words t.limits op _ _ _ both.1 in
        let next = ap (demand_in task.rule) run.running ∙ ap (demand_before task.rule run.state) can.calls in
        rw both.0 (omega (arith, counts, few, ap need_words asked, next, t.limits.words_in_range))

-- what is answered of the words of the next instruction's results
pub need_is : StepsCanBegin ℕ → (number : ℕ) (blocks : JobBlocks) (task : Task) (t : TrackState ℕ)
    (run : IsRunningSlot (own_slots number blocks) task t) → IsVerified task →
    (op : Op) (sources : List (List ℤ)) → IsNext task t.executed op sources →
    told_demand (shape op sources) 0 (need_words (question_by op sources)) ≡ told_need_in (state_after task t.executed)
need_is law number blocks task t run verified op sources next =
    let can = can_begin law (own_slots number blocks) task t run verified in
    let asked = same_question task t run.state op sources run.running can next in
    grind arith

-- ---- if nothing ends the job

-- what is read is the next instruction, which can be asked if nothing ends the job before
pub asks_on : StepsCanBegin ℕ → StepsCanAdvance ℕ →
    (slots : List Slot) (task : Task) (t : TrackState ℕ) (run : IsRunningSlot slots task t) (op : Op)
    (sources : List (List ℤ)) → IsVerified task → IsNext task t.executed op sources →
    early_end_at task t.executed ≡ None → (words : ℕ) → task.limits.words ≤ words → CanAsk words op sources
asks_on begins advances slots task t run op sources verified next goes_on words enough =
    let can = can_begin begins slots task t run verified in
    let advance = advances verified.0 task verified.1 t.executed run.state t run.running run.at
    (sym (early_end_when task t.executed run.state run.running) ∙ goes_on) can.call can.outer can.calls in
    let same = same_question task t run.state op sources run.running can next in
    grind (arith, nat_tests)

-- what is made of its results, whose words count as those that are held and needed
pub is_made : ResultsHaveNeededLengths → (task : Task) (job : ℕ) (blocks : JobBlocks) (t : TrackState ℕ) (op : Op)
    (sources : List (List ℤ)) (needs : Needs) → IsReady task job blocks t op sources needs → (first second : List ℤ)
    (flow : Flow) → AreResults (question_by op sources) first second → flow ≡ flow_of (question_by op sources) →
    IsAnswered task t.executed op flow first second
    × CountsAs (held_under task.rule job op t.cells blocks + length first + length second) t.peak needs.words
is_made law task job blocks t op sources needs ready first second flow results flow_is =
    search (rules, same_question, length_by_kinds)

-- ---- if something does

no_return : (task : Task) (s : State) (ending : Ending) → early_end task s ≡ Some ending → IsReturned ending → ⊥
no_return task s ending ends returned = grind arith

-- that is the job's end
pub is_ending : EarlyEndsEnd → (slots : List Slot) (task : Task) (t : TrackState ℕ) (run : IsRunningSlot slots task t)
    (ending : Ending) → IsVerified task → early_end_at task t.executed ≡ Some ending →
    IsEnding task t.executed t.peak ending
is_ending law slots task t run ending verified early =
    let s = run.state in
    let ends : early_end task s ≡ Some ending = sym (early_end_when task t.executed s run.running) ∙ early in
    let end = law verified.0 task verified.1 t.executed s ending run.running ends in
    grind (arith, nat_tests, no_return)

-- ======== the next instruction of a job, if it has no operands

-- ---- the instruction

-- what it reads: a CONST its list, and another nothing
abbrev sources_by : Op → List ℤ → List (List ℤ)
sources_by (op.Const k) list = list ∷ []
sources_by o list = []

-- its only result, if it has one, is its list
record IsPlain (o : Op) (list : List ℤ) : Type 0 where
  no_operands : operand_count o ≡ 0
  shaped : shape o (sources_by o list) ≡ None
  needs : need o (sources_by o list) ≡ (length list, 0)
  results : AreResults (question_by o (sources_by o list)) list []
  flow_is : flow_of (question_by o []) ≡ flow_of (question_by o (sources_by o list))

plain : (item : Item) → HasNoOperands (op_of item) → IsPlain (op_of item) (list_in item)
unfolding shape need value_fault result_of second_result_of
plain item none = grind arith

-- ---- words

same_limit : (list : List ℤ) (own stack needed limit : ℕ) → own ≡ stack → needed ≡ length list → stack ≤ limit →
    ltb limit (words_with list own) ≡ ltb limit (stack + needed)
same_limit list own stack needed limit own_is needed_is within = grind arith

-- ---- the next instruction of a job that runs

-- what is held and what counts of its words, and that the job ends before it exactly if these pass a limit
pub record HasWords (number : ℕ) (blocks : JobBlocks) (task : Task) (t : TrackState ℕ) (o : Op) (list : List ℤ) : Type 0
  where
    pub few_held : held_words number blocks ≤ t.limits.words
    pub counts : CountsAs (held_under task.rule number o t.cells blocks + length list) t.peak
        (words_with list (held_words number blocks))
    pub line : ℕ
    pub ends : (t.executed ≡ t.limits.budget → ⊥) → early_end_at task t.executed ≡ ending_by line None
        (memory_fault t.limits o (words_with list (held_words number blocks)) (depth_after o (length t.cells))
        (length t.frames))

module _ (begins : StepsCanBegin ℕ) (number : ℕ) (blocks : JobBlocks) (task : Task) (t : TrackState ℕ)
    (run : IsRunningSlot (own_slots number blocks) task t) (verified : IsVerified task) (o : Op) (list : List ℤ)
    (next : IsOpOfNext task t o) (own : IsListOfNext task t list) (none : HasNoOperands o) where
  can_here : CanBegin task t.executed run.state t
  can_here = can_begin begins (own_slots number blocks) task t run verified

  abbrev item : Item
  item = (next_item can_here.call).item

  op_here : o ≡ op_of item
  op_here = next can_here.call can_here.outer can_here.stands

  list_is : list ≡ list_in item
  list_is = own can_here.call can_here.outer can_here.stands

  none_of : HasNoOperands (op_of item)
  none_of = subst HasNoOperands op_here none

  is_plain : IsPlain o list
  is_plain = grind (arith, op_here, item, list_is, plain, none_of)

  asked_here : question_of item run.state.stack ≡ question_by o (sources_by o list)
  asked_here = grind (arith, nat_tests, can_begin)

  next_here : IsNext task t.executed o (sources_by o list)
  next_here = grind (arith, question_when, asked_here)

  -- its results are its list, and no second one
  pub answered : (flow : Flow) → flow ≡ flow_of (question_by o []) → IsAnswered task t.executed o flow list []
  answered flow flow_is = grind (arith, common_steps, asked_here, next_here, op_here, is_plain)

  -- ---- its words

  module _ (reaches : Reaches) (counted : HeldIsCounted) (tidy : IsTidy blocks.memory) where
    reached : IsReached verified.0 task t.executed run.state
    reached = reaches verified.0 task verified.1 t.executed run.state run.running

    abbrev held : ℕ
    held = stack_words run.state.stack

    held_here : held_at task.rule item run.state ≡ held
    held_here = grind (arith, nat_tests, can_here, op_here, list_is, plain, none_of)

    held_own : held_words number blocks ≡ held
    held_own = (counted First number blocks item run.state t.cells run.holds tidy).held

    held_any : held_under task.rule number o t.cells blocks ≡ held
    held_any = grind (arith, op_here, item, held, held_here)

    within : held ≤ t.limits.words
    within = let same = ap (λ (l : Limits). l.words) run.at.limits in omega (arith, reached.words, same)

    needed : need_words (question_by o (sources_by o list)) ≡ length list
    needed = let same = ap (λ (p : ℕ × ℕ). p.0 + p.1) is_plain.needs in omega (arith, same)

    pub has_words : HasWords number blocks task t o list
    has_words = record {
      few_held = omega (arith, held_own, within);
      counts = grind (arith, held_own, held_any, reached);
      line = (next_item can_here.call).number;
      ends = λ unspent.
          early_end_is task t run.state o (sources_by o list) held run.running run.at can_here next_here (sym held_here)
          unspent ∙ rw (
            is_plain.shaped,
            same_by _ o _ _ (depth_after o (length t.cells)) (length t.frames)
                (same_limit list _ _ _ _ held_own needed within),
          );
    }

pub ruleset of_needs = (all_counted, limit_fault, within_words)
