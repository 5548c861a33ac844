use Rattle.std.proofs.Common.{◌≡◌, map, take}
use Rattle.vector_ops.proofs.steps.fill_many.Given as goal

abbrev pub invariant-loop-i : goal.invariant-loop-i
invariant-loop-i g l = take l.i l.out ≡ map g.S.ElementStep.gives (take l.i l.elements)
