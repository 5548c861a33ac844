use Rattle.std.proofs.Common.{◌≡◌, take}
use Rattle.refcounts.specs.SharedState.{state_after_releases, used_words}
use Rattle.refcounts.proofs.SharedMemory.used_without.Given as goal

abbrev pub invariant-loop-index : goal.invariant-loop-index
invariant-loop-index g l = record {
  left : l.used ≡ used_words (state_after_releases l.self (take l.index l.ids));
}
