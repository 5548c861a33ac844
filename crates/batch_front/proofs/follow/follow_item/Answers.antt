use Rattle.std.proofs.Common.{arith}
use Rattle.batch_front.proofs.Settling.{settled_same}
use Rattle.batch_front.proofs.follow.follow_item.Goals as goal

pub returns-in_default : goal.returns-in_default
returns-in_default g c =
    grind (arith, settled_same c.closed_change_nothing.ensures c.args.machine.now c.requires.settled)

pub returns : goal.returns
returns g c = grind arith
