use Rattle.std.proofs.Common.{arith}
use Rattle.job_steps.proofs.Following.{top_active}
use Rattle.job_steps.proofs.track.Track.function.Goals as goal

pub function-requires : goal.function-requires
function-requires g c =
    top_active c.args.program.now.functions c.self.inside.frames.entries c.innermost.result c.innermost.ensures
    (grind (arith, c.self.view_is, c.requires))
