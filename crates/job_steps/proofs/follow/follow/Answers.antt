-- For each flow of an instruction: the frames after it are at the calls that the instruction leads to.
use Rattle.job_steps.proofs.Following.{left_call, left_if, left_next, left_return, same_functions}
use Rattle.job_steps.proofs.follow.follow.Goals as goal

pub returns-in-Choose-clause-frames : goal.returns-in-Choose-clause-frames
returns-in-Choose-clause-frames g c =
    left_if c.args.job.now.verified _
    (same_functions _ _ _ c.program-program.ensures.same c.verified.ensures.same) c.args.frames.now _ _
    c.innermost-frame.ensures c.args.flow c.requires.can c.requires.settled _ c.in-Choose.is
    c.chosen.result c.chosen.ensures.stands c.go_on_at-in-Choose.ensures

pub returns-in-Return-clause-frames : goal.returns-in-Return-clause-frames
returns-in-Return-clause-frames g c =
    left_return c.args.job.now.verified _
    (same_functions _ _ _ c.program-program.ensures.same c.verified.ensures.same) c.args.frames.now _ _
    c.innermost-frame.ensures c.args.flow c.requires.can c.requires.settled c.in-Return.is
    c.leave.ensures

pub returns-in-Call-clause-frames : goal.returns-in-Call-clause-frames
returns-in-Call-clause-frames g c =
    left_call c.args.job.now.verified _
    (same_functions _ _ _ c.program-program.ensures.same c.verified.ensures.same) c.args.frames.now _ _
    c.innermost-frame.ensures c.args.flow c.requires.can c.requires.settled c.in-Call.is
    c.next-in-Call.result c.called-callee.result c.next-in-Call.ensures.stands c.called-callee.ensures _
    c.go_on_at-in-Call.ensures c.enter.ensures

pub returns-in-Next-clause-frames : goal.returns-in-Next-clause-frames
returns-in-Next-clause-frames g c =
    left_next c.args.job.now.verified _
    (same_functions _ _ _ c.program-program.ensures.same c.verified.ensures.same) c.args.frames.now _ _
    c.innermost-frame.ensures c.args.flow c.requires.can c.requires.settled c.in-Next.is
    c.next.result c.next.ensures.stands c.go_on_at.ensures
