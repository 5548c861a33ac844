use Rattle.std.proofs.Common.{arith}
use Rattle.holes.proofs.Opening.{opened_two, opened_both}
use Rattle.holes.proofs.tree.open_two.Goals as goal

pub returns-then-first-last : goal.returns-then-first-last
returns-then-first-last c =
    opened_two c.args.nodes.now c.open.new.nodes c.args.first c.args.last c.requires.order c.requires.within
    c.requires.power (omega arith) c.open.ensures

pub returns : goal.returns
returns c =
    opened_both c.args.nodes.now c.open.new.nodes c.open-2.new.nodes c.args.first c.args.last c.open.auto.nodes
    c.open.ensures c.open-2.ensures
