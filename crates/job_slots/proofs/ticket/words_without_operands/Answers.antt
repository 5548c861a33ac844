-- The words of an instruction without operands are counted, or they end the job.
use Rattle.std.proofs.Common.{◌≡◌, length, arith}
use Rattle.job_memory.specs.JobBlocks.{held_words}
use Rattle.job_steps.specs.Motions.{depth_after}
use Rattle.job_steps.specs.States.{ruled}
use Rattle.job_steps.specs.Steps.{memory_fault}
use Rattle.job_slots.specs.Needs.{words_with}
use Rattle.job_slots.proofs.NextSteps.{budget_end, HasWords, has_words}
use Rattle.job_slots.proofs.ticket.words_without_operands.Given.{Over}
use Rattle.job_slots.proofs.ticket.words_without_operands.Goals as goal
use Rattle.job_slots.proofs.ticket.words_without_operands.Goals.{After-memory_fault, After-used-used}

pub returns-then-executed-limits : goal.returns-then-executed-limits
returns-then-executed-limits g c =
    let run = c.requires.running in
    grind (arith, budget_end (ruled c.args.turn.rule c.args.job.now) c.args.track.now run.state run.running run.at)

words : (g : Over) (c : After-used-used g) → HasWords c.args.turn.number c.args.blocks.now
    (ruled c.args.turn.rule c.args.job.now) c.args.track.now c.args.plain.op c.args.plain.list.now
words g c =
    has_words c.steps_can_begin.ensures _ c.args.blocks.now _ _ c.requires.running c.requires.verified _ _
    c.requires.next c.requires.list c.requires.no_operands c.reached.ensures c.held_is_counted.ensures
    c.used-used.ensures.tidy

pub words_with-words-requires-clause-few : goal.words_with-words-requires-clause-few
words_with-words-requires-clause-few g c =
    let few = (words g (goal.at.words_with-words-requires-clause-few g c).After-used-used).few_held in
    omega (arith, few, c.args.track.now.limits.words_in_range)

unspent : (g : Over) (c : After-memory_fault g) → c.args.track.now.executed ≡ c.args.track.now.limits.budget → ⊥
unspent g c same = grind arith

-- the fault that was found is that at the words that count
fault_is : (g : Over) (c : After-memory_fault g) →
    let track = c.args.track.now in memory_fault track.limits c.args.plain.op
    (words_with c.args.plain.list.now (held_words c.args.turn.number c.args.blocks.now))
    (depth_after c.args.plain.op (length track.cells)) (length track.frames) ≡ c.memory_fault.result
fault_is g c = grind arith

pub returns-in-Some : goal.returns-in-Some
returns-in-Some g c =
    let at = goal.at.returns-in-Some g c in
    let ends = (words g at.After-used-used).ends (unspent g at.After-memory_fault) in
    rw (ends, fault_is g at.After-memory_fault, c.in-Some.is)

pub returns-in-None : goal.returns-in-None
returns-in-None g c =
    let at = goal.at.returns-in-None g c in
    let has = words g at.After-used-used in (
      rw (has.ends (unspent g at.After-memory_fault), fault_is g at.After-memory_fault, c.in-None.is),
      rw c.words_with-words.ensures has.counts,
    )
