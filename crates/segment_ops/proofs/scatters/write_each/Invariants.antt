use Rattle.std.proofs.Common.{◌≡◌}
use Rattle.segment_ops.proofs.PlaceLemmas.{moved_from}
use Rattle.segment_ops.proofs.scatters.write_each.Given as goal

abbrev pub invariant-loop-place : goal.invariant-loop-place
invariant-loop-place l =
    moved_from l.elements l.indices 0 l.fn.out ≡ moved_from l.elements l.indices l.place l.out
