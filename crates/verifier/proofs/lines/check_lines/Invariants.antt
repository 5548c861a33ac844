use Rattle.std.proofs.Common.{◌≡◌, drop, Ok}
use Rattle.verifier.specs.Walk.{front_of, state_after_lines}
use Rattle.verifier.proofs.lines.check_lines.Given as goal

abbrev pub invariant-loop-place : goal.invariant-loop-place
invariant-loop-place g l =
    state_after_lines l.scope (Ok l.initial.stack) (front_of l.function) ≡ state_after_lines l.scope (Ok l.stack)
    (drop l.place (front_of l.function))
