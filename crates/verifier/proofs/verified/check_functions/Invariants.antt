use Rattle.std.proofs.Common.{◌≡◌, drop}
use Rattle.verifier.specs.First.{functions_fault}
use Rattle.verifier.proofs.verified.check_functions.Given as goal

abbrev pub invariant-loop-place : goal.invariant-loop-place
invariant-loop-place g l =
    functions_fault l.scope l.scope.functions ≡ functions_fault l.scope (drop l.place l.scope.functions)
