use Rattle.std.proofs.Common.{◌≡◌, take}
use Rattle.std.specs.List.{list_any}
use Rattle.vector_ops.proofs.steps.any_of_many.Given as goal

abbrev pub invariant-loop-element : goal.invariant-loop-element
invariant-loop-element g l = l.found ≡ list_any g.T.ElementTest.holds (take l.element-index l.elements)
