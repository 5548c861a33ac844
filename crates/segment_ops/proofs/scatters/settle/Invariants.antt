use Rattle.std.proofs.Common.{◌≡◌}
use Rattle.segment_ops.proofs.PlaceLemmas.{moved_from, Settles}
use Rattle.segment_ops.proofs.scatters.settle.Given as goal

abbrev pub invariant-loop-place : goal.invariant-loop-place
invariant-loop-place l = record {
  settles : Settles l.indices l.fn.out l.out l.place;
  moved : moved_from l.elements l.indices 0 l.fn.out ≡ moved_from l.elements l.indices l.place l.out;
}
