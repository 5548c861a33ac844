-- The results of a step in flight are those of its instruction, and their words are counted.
use Rattle.std.proofs.Common.{arith}
use Rattle.job_steps.specs.States.{ruled}
use Rattle.job_slots.specs.Answers.{IsAnswered}
use Rattle.job_slots.specs.Executions.{CanExecute}
use Rattle.job_slots.proofs.Stacks.{deep_enough}
use Rattle.job_slots.proofs.commit.made_in_flight.Given.{Over}
use Rattle.job_slots.proofs.commit.made_in_flight.Goals as goal
use Rattle.job_slots.proofs.commit.made_in_flight.Goals.{After-flow-flow}

-- the results are those of the next instruction
answered : (g : Over) (c : After-flow-flow g) → IsAnswered (ruled c.args.turn.rule c.args.job.now)
    c.args.track.now.executed c.op-op.result c.flow-flow.result c.in-Ok.first.now c.in-Ok.second.now
answered g c = grind arith

-- what is known of the instruction
can : (g : Over) (c : After-flow-flow g) → CanExecute c.args.turn.number c.args.blocks.now
    (ruled c.args.turn.rule c.args.job.now) c.args.track.now c.op-op.result c.flow-flow.result c.in-Ok.first.now
    c.in-Ok.second.now
can g c =
    c.steps_execute.ensures _ _ _ _ _ _ _ _ c.requires.flying c.requires.verified c.used-used.ensures.tidy
    (answered g c)

pub held_under-requires : goal.held_under-requires
held_under-requires g c =
    let known = (can g (goal.at.held_under-requires g c).After-flow-flow).can_exchange in
    record { has_grant = c.requires.has_grant; deep = deep_enough c.op-op.result _ known.deep; own = known.own }

pub overflow_add-words : goal.overflow_add-words
overflow_add-words g c =
    let known = can g (goal.at.overflow_add-words g c).After-flow-flow in
    omega (arith, known.room, c.held_under.ensures, c.args.job.now.limits.words_in_range)

pub overflow_add-words-in-Ok : goal.overflow_add-words-in-Ok
overflow_add-words-in-Ok g c =
    let known = can g (goal.at.overflow_add-words-in-Ok g c).After-flow-flow in
    omega (arith, known.room, c.held_under.ensures, c.args.job.now.limits.words_in_range)

pub returns-in-Ok : goal.returns-in-Ok
returns-in-Ok g c = grind (arith, answered, After-flow-flow)
