-- An instruction whose results are given is executed: the track goes past it, and its blocks have the results.
use Rattle.std.proofs.Common.{refl, ap, arith}
use Rattle.job_memory.specs.JobBlocks.{words_of}
use Rattle.job_steps.specs.States.{ruled}
use Rattle.job_slots.specs.Executions.{IsExecuted, CanExecute}
use Rattle.job_slots.proofs.Executed.{executed_past}
use Rattle.job_slots.proofs.commit.execute.Given.{Over}
use Rattle.job_slots.proofs.commit.execute.Goals as goal
use Rattle.job_slots.proofs.commit.execute.Goals.{After-used-used, After-advance}

-- what is known of the instruction
can : (g : Over) (c : After-used-used g) → CanExecute c.args.turn.number c.args.blocks.now
    (ruled c.args.turn.rule c.args.job.now) c.args.track.now c.args.made.op c.args.made.flow c.args.made.first.now
    c.args.made.second.now
can g c =
    c.steps_execute.ensures _ _ _ _ _ _ _ _ c.requires.flying c.requires.verified c.used-used.ensures.tidy
    c.requires.made.answered

pub exchange_operands-results-requires-clause-can : goal.exchange_operands-results-requires-clause-can
exchange_operands-results-requires-clause-can g c =
    let known = can g (goal.at.exchange_operands-results-requires-clause-can g c).After-used-used in
    record {
      has_grant = (c.requires.is_job, (_, c.requires.grant));
      numbers = c.requires.numbers;
      room = omega (arith, known.room, ap words_of c.requires.grant);
      can_exchange = known.can_exchange;
    }

pub advance-requires : goal.advance-requires
advance-requires g c =
    let known = can g (goal.at.advance-requires g c).After-used-used in
    let past = known.goes_past in
    let flows = known.flows in
    let given = c.exchange_operands-results.ensures.exchanged.given in
    grind arith

-- the instruction is executed
executed : (g : Over) (c : goal.After-advance g) → IsExecuted c.args.turn.number c.args.blocks.now
    c.exchange_operands-results.new.blocks (ruled c.args.turn.rule c.args.job.now) c.args.track.now c.advance.new.self
executed g c =
    executed_past (can g (goal.at.returns-clause-after g c).After-used-used)
    c.exchange_operands-results.ensures.exchanged refl (rw (← c.as_slice.ensures) (grind arith))

pub returns-clause-after : goal.returns-clause-after
returns-clause-after g c = (executed g c).after

pub returns-clause-others : goal.returns-clause-others
returns-clause-others g c = (executed g c).others
