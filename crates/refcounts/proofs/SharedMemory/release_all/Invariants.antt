use Rattle.std.proofs.Common.{◌≡◌, take}
use Rattle.refcounts.specs.SharedState.{state_after_releases}
use Rattle.refcounts.proofs.SharedMemory.release_all.Given as goal

abbrev pub invariant-loop-id : goal.invariant-loop-id
invariant-loop-id g l = record { released : l.self ≡ state_after_releases l.initial.self (take l.id-index l.ids) }
