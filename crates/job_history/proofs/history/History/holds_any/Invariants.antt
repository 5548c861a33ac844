use Rattle.std.proofs.Common.{◌≡◌, take}
use Rattle.std.specs.Prelude.{false}
use Rattle.std.specs.List.{list_any}
use Rattle.job_profile.specs.Stops.{holds_in}
use Rattle.job_history.specs.Places.{state_at}
use Rattle.job_history.proofs.history.History.holds_any.Given as goal

abbrev pub invariant-loop-stop : goal.invariant-loop-stop
invariant-loop-stop g l =
    list_any (λ stop. holds_in stop (state_at l.self)) (take l.stop-index l.stops) ≡ false
