use Rattle.std.proofs.Common.{◌∙◌}
use Rattle.verifier.proofs.Functions.{first_fails}
use Rattle.verifier.proofs.verified.check_functions.Goals as goal

pub returns-in-Err : goal.returns-in-Err
returns-in-Err g c =
    first_fails c.in-Err.fault c.args.scope.now _ c.args.scope.now.functions c.functions-function-items.result.now
    c.loop-place.place c.function-item.result c.loop-place.invariant
    (c.functions-function-items.ensures.functions ∙ c.program.ensures) c.loop-place-test.true c.function-item.is
    c.in-Err.ensures
