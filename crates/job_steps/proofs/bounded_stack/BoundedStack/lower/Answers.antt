use Rattle.std.proofs.Common.{arith}
use Rattle.job_steps.proofs.Turns.{lowered}
use Rattle.job_steps.proofs.bounded_stack.BoundedStack.lower.Goals as goal

pub returns : goal.returns
returns g c =
    lowered c.args.self.now c.self.inside.entries.items c.truncate.new.self.items _ c.self.view_is c.args.count
    c.len.result c.requires (omega (arith, c.len.ensures)) c.truncate.ensures.items
