use Rattle.std.proofs.Common.{take}
use Rattle.batch_front.specs.Turns.{SettlesAs, after_items, settled}
use Rattle.batch_front.proofs.follow.follow.Given as goal

abbrev pub invariant-loop-item : goal.invariant-loop-item
invariant-loop-item g l =
    SettlesAs (after_items l.reported (take l.item-index l.schedule) (settled l.fn.machine)) l.fn.machine l.machine
    l.workbench
