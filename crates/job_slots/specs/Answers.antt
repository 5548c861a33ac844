-- What a begin and a finish answer, and in which standing they leave the job.
use Rattle.std.specs.Prelude.{◌≡◌, ℕ, zero, suc, ℤ, ◌+◌, ◌-◌, ◌^◌, ◌<◌, ◌≤◌, min, Bool, true, false, ⊤, List}
use Rattle.std.specs.Prelude.{[], ◌∷◌, length, Option, Some, None}
use Rattle.vcode_base.specs.declared.fault.DataFault.{DataFault}
use Rattle.vcode_base.specs.declared.op.Op.{Op}
use Rattle.vcode_base.specs.declared.rule.Rule.{Rule}
use Rattle.vcode_base.specs.Instructions.{op_of}
use Rattle.vcode_base.specs.Meaning.{shape}
use Rattle.refcounts.specs.SharedState.{block_count}
use Rattle.job_memory.specs.JobBlocks.{JobBlocks, ChangesOnlyOf}
use Rattle.job_steps.specs.declared.flow.Flow.{Flow}
use Rattle.job_steps.specs.Flows.{flow_of}
use Rattle.job_steps.specs.declared.event.Event.TheVariants as event
use Rattle.job_steps.specs.Buffers.{HaveAtMost}
use Rattle.job_steps.specs.Events.{early_end, next_standing}
use Rattle.job_steps.specs.Questions.{Question, need_words}
use Rattle.job_steps.specs.Runs.{state_after, outcome, executed_count, peak}
use Rattle.job_steps.specs.Standings.{Standing, Live, InFlight, Ended}
use Rattle.job_steps.specs.States.{Task, Active, State}
use Rattle.job_steps.specs.Steps.{Ending, Progress, Running, Over, Stuck, next_item, question_of, words_at}
use Rattle.job_steps.specs.Steps.{held_at, sources_of}
use Rattle.job_steps.specs.Tickets.{Asked, AreResults, CanAnswer, question_by}
use Rattle.job_slots.specs.declared.answer.Begun.{Begun}
use Rattle.job_slots.specs.declared.answer.Begun.TheVariants as begun
use Rattle.job_slots.specs.declared.answer.Finished.{Finished}
use Rattle.job_slots.specs.declared.answer.Finished.TheVariants as finished
use Rattle.job_slots.specs.declared.answer.Stepped.{Stepped}
use Rattle.job_slots.specs.declared.answer.Stepped.TheVariants as stepped
use Rattle.job_slots.specs.declared.status.Status.TheVariants as status
use Rattle.job_slots.specs.Slots.{GoesOn, SlotState, Shows, IsReturned, standing_of}

-- ---- what a step asks

abbrev pub question_before : State → List Active → Option Question
question_before s [] = None
question_before s (call ∷ outer) = Some (question_of (next_item call).item s.stack)

abbrev pub question_in : Progress → Option Question
question_in (Running s) = question_before s s.calls
question_in (Over ending executed peak) = None
question_in Stuck = None

-- the instruction, with its operands, that a job executes after n others
unfoldable pub question_at : Task → ℕ → Option Question
question_at task n = question_in (state_after task n)

abbrev pub line_before : List Active → Option ℕ
line_before [] = None
line_before (call ∷ outer) = Some (next_item call).number

abbrev pub line_in : Progress → Option ℕ
line_in (Running s) = line_before s.calls
line_in (Over ending executed peak) = None
line_in Stuck = None

-- the line of that instruction
unfoldable pub line_at : Task → ℕ → Option ℕ
line_at task n = line_in (state_after task n)

-- the words that the next instruction of these calls holds and needs
abbrev pub demand_before : Rule → State → List Active → ℕ
demand_before rule s [] = 0
demand_before rule s (call ∷ outer) = words_at rule (next_item call).item s

-- the words that the next instruction holds and needs
abbrev pub demand_in : Rule → Progress → ℕ
demand_in rule (Running s) = demand_before rule s s.calls
demand_in rule (Over ending executed peak) = 0
demand_in rule Stuck = 0

-- The words that are answered of an instruction, if this many are held and this many are needed: both, or the greatest
-- number if they are more. Only those that are held, if its operands don't fit one another.
abbrev pub told_demand : Option DataFault → ℕ → ℕ → ℕ
told_demand (Some fault) held needed = held
told_demand None held needed = min (held + needed) (2 ^ 64 - 1)

-- what is answered of the next instruction of these calls
abbrev pub told_demand_before : Rule → State → List Active → ℕ
told_demand_before rule s [] = 0
told_demand_before rule s (call ∷ outer) =
    let item = (next_item call).item in
    told_demand (shape (op_of item) (sources_of item s.stack)) (held_at rule item s)
    (need_words (question_of item s.stack))

-- what is answered of the next instruction, whether it is executed or ends the job
abbrev pub told_demand_in : Rule → Progress → ℕ
told_demand_in rule (Running s) = told_demand_before rule s s.calls
told_demand_in rule (Over ending executed peak) = 0
told_demand_in rule Stuck = 0

-- the words that are answered of the results of the next instruction of these calls
abbrev pub told_need_before : State → List Active → ℕ
told_need_before s [] = 0
told_need_before s (call ∷ outer) =
    let item = (next_item call).item in
    told_demand (shape (op_of item) (sources_of item s.stack)) 0 (need_words (question_of item s.stack))

-- the words of the results of the next instruction, whether it is executed or ends the job; 0 if its operands don't fit
-- one another
abbrev pub told_need_in : Progress → ℕ
told_need_in (Running s) = told_need_before s s.calls
told_need_in (Over ending executed peak) = 0
told_need_in Stuck = 0

abbrev pub early_end_of : Task → Progress → Option Ending
early_end_of task (Running s) = early_end task s
early_end_of task (Over ending executed peak) = None
early_end_of task Stuck = None

-- what ends the job there before the instruction's values are looked at
unfoldable pub early_end_at : Task → ℕ → Option Ending
early_end_at task n = early_end_of task (state_after task n)

-- this instruction with these operands is the next of a job
abbrev pub IsNext : Task → ℕ → Op → List (List ℤ) → Type 0
IsNext task n op sources = question_at task n ≡ Some (question_by op sources)

-- this instruction can be asked of a desk of `words` words
pub record CanAsk (words : ℕ) (op : Op) (sources : List (List ℤ)) : Type 0 where
  pub can : CanAnswer words (question_by op sources)
  pub room : HaveAtMost words sources

-- ---- standings

abbrev pub is_live : Standing → Bool
is_live (Live n) = true
is_live standing = false

abbrev pub is_in_flight : Standing → Bool
is_in_flight (InFlight n) = true
is_in_flight standing = false

abbrev pub is_ended : Standing → Bool
is_ended Ended = true
is_ended standing = false

-- the standing of a job after an event, or the same if that isn't open
abbrev pub or_same : Standing → Option Standing → Standing
or_same standing None = standing
or_same standing (Some next) = next

-- ---- a begin

-- the ticket is that of the job's next step, nothing ends the job before its values are looked at, and the desk has the
-- job's words
pub record IsTicketOf (job words : ℕ) (task : Task) (standing : Standing) (ticket : Asked) : Type 0 where
  pub live : standing ≡ Live ticket.step
  pub next : next_standing (event.Begin job) task standing ≡ Some (InFlight ticket.step)
  pub question : question_at task ticket.step ≡ Some ticket.question
  pub job_is : ticket.job ≡ job
  pub words_are : ticket.words ≡ words
  pub enough : task.limits.words ≤ words

-- what a ticket says whose job goes on after n instructions
pub record IsAskedOf (job words : ℕ) (task : Task) (n : ℕ) (ticket : Asked) : Type 0 where
  pub goes_on : early_end_at task n ≡ None
  pub question : question_at task n ≡ Some ticket.question
  pub step_is : ticket.step ≡ n
  pub job_is : ticket.job ≡ job
  pub words_are : ticket.words ≡ words

-- what a begin answers on a desk of `words` words, by the job's standing
abbrev pub Begins : {A : Type 0} → (job words : ℕ) → Task → Standing → Begun A → Type 0
Begins job words task standing (begun.Began ticket) = IsTicketOf job words task standing ticket
Begins job words task standing (begun.Ended desk) =
    (next_standing (event.Begin job) task standing ≡ Some Ended) × (task.limits.words ≤ words) × (desk ≡ words)
Begins job words task standing (begun.NotReady desk) = (is_live standing ≡ false) × (desk ≡ words)
Begins job words task standing (begun.SmallDesk desk) =
    (is_live standing ≡ true) × (words < task.limits.words) × (desk ≡ words)

-- no step began and the job did not end
abbrev pub IsPutOff : {A : Type 0} → Begun A → Type 0
IsPutOff (begun.Began ticket) = ⊥
IsPutOff (begun.Ended desk) = ⊥
IsPutOff (begun.NotReady desk) = ⊤
IsPutOff (begun.SmallDesk desk) = ⊤

-- the standing in which a begin leaves the job
abbrev pub standing_after_begun : {A : Type 0} → Begun A → (old next : Standing) → Standing
standing_after_begun (begun.Began ticket) old next = next
standing_after_begun (begun.Ended desk) old next = next
standing_after_begun (begun.NotReady desk) old next = old
standing_after_begun (begun.SmallDesk desk) old next = old

-- ---- a finish

-- the step is the one in flight, of this instruction and these operands
pub record Fits (task : Task) (standing : Standing) (filled : Asked) : Type 0 where
  pub flying : standing ≡ InFlight filled.step
  pub question : question_at task filled.step ≡ Some filled.question

-- what a finish answers, by the job's standing
abbrev pub Finishes : ℕ → Task → Standing → Asked → Finished → Type 0
Finishes job task standing filled finished.Done =
    Fits task standing filled
    × (next_standing (event.Finish job) task standing ≡ Some (Live (filled.step + 1)))
Finishes job task standing filled finished.Ended =
    Fits task standing filled × (next_standing (event.Finish job) task standing ≡ Some Ended)
Finishes job task standing filled finished.Stale = Fits task standing filled → ⊥

-- the standing in which a finish leaves the job
abbrev pub standing_after_finished : Finished → (old next : Standing) → Standing
standing_after_finished finished.Done old next = next
standing_after_finished finished.Ended old next = next
standing_after_finished finished.Stale old next = old

-- ---- a step in one go

-- the standing in which a begin and then a finish leave a job
abbrev pub standing_after_step : ℕ → Task → Standing → Standing
standing_after_step job task standing =
    let begun = or_same standing (next_standing (event.Begin job) task standing) in
    or_same begun (next_standing (event.Finish job) task begun)

-- the job is live, and has at most `words` words
abbrev pub HasRoomFor : ℕ → Task → Standing → Type 0
HasRoomFor words task standing = (is_live standing ≡ true) × (task.limits.words ≤ words)

-- the job goes on after one instruction more
pub record HasGoneOn (job : ℕ) (task : Task) (standing : Standing) : Type 0 where
  pub step : ℕ
  pub live : standing ≡ Live step
  pub next : standing_after_step job task standing ≡ Live (step + 1)

-- what a step in one go answers in a room of `words` words, by the job's standing
abbrev pub Steps : (job words : ℕ) → Task → Standing → Stepped → Type 0
Steps job words task standing stepped.Done = HasRoomFor words task standing × HasGoneOn job task standing
Steps job words task standing stepped.Ended =
    HasRoomFor words task standing × (standing_after_step job task standing ≡ Ended)
Steps job words task standing stepped.NotReady = is_live standing ≡ false
Steps job words task standing stepped.SmallDesk = (is_live standing ≡ true) × (words < task.limits.words)

-- the job can take its next step: it is live, and there are numbers for two blocks more
pub record CanStep (job : ℕ) (task : Task) (slot : SlotState) (blocks : JobBlocks) : Type 0 where
  pub shows : Shows job blocks task slot
  pub live : slot.status ≡ status.Live
  pub numbers : block_count blocks.memory + 2 ≤ length blocks.memory.slots

-- A step leads a job, which was live after n instructions, to this slot, and its blocks to these. The job goes on after
-- it, or is over.
pub record TakesStep (job : ℕ) (task : Task) (n : ℕ) (old : JobBlocks) (slot : SlotState) (new : JobBlocks)
    (goes_on : Bool) : Type 0 where
  pub standing : standing_of slot ≡ standing_after_step job task (Live n)
  pub answer : goes_on ≡ is_live (standing_of slot)
  pub on : goes_on ≡ true → GoesOn job new task slot
  pub over : goes_on ≡ false → Shows job new task slot
  pub others : ChangesOnlyOf job old new

-- the job took no step
abbrev pub IsPassedOver : Stepped → Type 0
IsPassedOver stepped.Done = ⊥
IsPassedOver stepped.Ended = ⊥
IsPassedOver stepped.NotReady = ⊤
IsPassedOver stepped.SmallDesk = ⊤

-- the new one after a step, the old one if the job took none
abbrev pub after_stepped : {T : Type 0} → Stepped → (old new : T) → T
after_stepped stepped.Done old new = new
after_stepped stepped.Ended old new = new
after_stepped stepped.NotReady old new = old
after_stepped stepped.SmallDesk old new = old

-- ---- a run

-- `count` steps lead a job from one standing to another, and it was live at each
abbrev pub StepsLead : (count job : ℕ) → Task → (old new : Standing) → Type 0
StepsLead zero job task old new = new ≡ old
StepsLead (suc count) job task old new =
    (is_live old ≡ true) × StepsLead count job task (standing_after_step job task old) new

-- some steps lead it there
abbrev pub HasRun : ℕ → Task → (old new : Standing) → Type 0
HasRun job task old new = (count : ℕ) × StepsLead count job task old new

-- `count` steps lead it there, or fewer, after which it isn't live
pub record HasRunFor (count job : ℕ) (task : Task) (old new : Standing) : Type 0 where
  pub steps : ℕ
  pub lead : StepsLead steps job task old new
  pub within : steps ≤ count
  pub all : is_live new ≡ true → steps ≡ count

-- ---- results

-- these are the instruction, its flow and the results of what a step asks
pub record IsAnswered (task : Task) (n : ℕ) (op : Op) (flow : Flow) (first second : List ℤ) : Type 0 where
  pub question : Question
  pub asked : question_at task n ≡ Some question
  pub op_is : op ≡ question.op
  pub flow_is : flow ≡ flow_of question
  pub results : AreResults question first second

-- a job that ends so, with these counts, and not by return
pub record IsEnding (task : Task) (executed most : ℕ) (ending : Ending) : Type 0 where
  pub outcome_is : outcome task ≡ ending
  pub executed_is : executed ≡ executed_count task
  pub peak_is : most ≡ peak task
  pub no_return : IsReturned ending → ⊥

-- the job ends so by its next step, with these counts
pub record EndsByStep (job : ℕ) (task : Task) (executed most : ℕ) (ending : Ending) : Type 0 where
  pub is : IsEnding task executed most ending
  pub standing : standing_after_step job task (Live executed) ≡ Ended
