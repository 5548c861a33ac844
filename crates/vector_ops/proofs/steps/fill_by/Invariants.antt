use Rattle.std.proofs.Common.{◌≡◌, map, take}
use Rattle.vector_ops.proofs.steps.fill_by.Given as goal

abbrev pub invariant-loop-i : goal.invariant-loop-i
invariant-loop-i g l = take l.i l.out ≡ map (λ x. g.S.PairStep.gives x l.fn.right) (take l.i l.left)
