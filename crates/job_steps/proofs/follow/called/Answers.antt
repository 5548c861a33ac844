use Rattle.job_steps.proofs.Following.{found_call}
use Rattle.job_steps.proofs.follow.called.Goals as goal

pub unwrap-requires : goal.unwrap-requires
unwrap-requires g c =
    (found_call _ _ c.args.job.now.verified c.args.frame c.requires.called.0 c.requires.called.1 c.callee.result
    c.program-program.ensures.same c.verified.ensures.same c.requires.settled c.requires.called.2 c.callee.ensures).some

pub returns : goal.returns
returns g c =
    λ name callee call. rw (c.first.ensures) ((found_call _ _ c.args.job.now.verified c.args.frame name callee
    c.callee.result c.program-program.ensures.same c.verified.ensures.same c.requires.settled call
    c.callee.ensures).first c.unwrap.result c.unwrap.ensures)
