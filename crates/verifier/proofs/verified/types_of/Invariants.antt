use Rattle.std.proofs.Common.{take}
use Rattle.verifier.specs.Typed.{AreArrows}
use Rattle.verifier.proofs.verified.types_of.Given as goal

abbrev pub invariant-loop-function : goal.invariant-loop-function
invariant-loop-function g l = AreArrows l.signatures (take l.function-index l.program.functions) l.types.items
