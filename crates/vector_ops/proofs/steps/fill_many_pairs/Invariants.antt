use Rattle.std.proofs.Common.{◌≡◌, map, take}
use Rattle.std.specs.List.{zip}
use Rattle.vector_ops.proofs.steps.fill_many_pairs.Given as goal

abbrev pub invariant-loop-i : goal.invariant-loop-i
invariant-loop-i g l = take l.i l.out ≡ map (λ (x, y). g.S.PairStep.gives x y) (take l.i (zip l.left l.right))
