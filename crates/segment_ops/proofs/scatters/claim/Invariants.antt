use Rattle.std.proofs.Common.{◌<◌, ◌≤ℤ◌, ◌<ℤ◌, ℕ, pos, get_or, length}
use Rattle.segment_ops.specs.Indices.{HoldsClaims}
use Rattle.segment_ops.proofs.PlaceLemmas.{IsKept}
use Rattle.segment_ops.proofs.scatters.claim.Given as goal

abbrev pub invariant-loop-place : goal.invariant-loop-place
invariant-loop-place l = record {
  inside : (j : ℕ) → j < l.place
      → (pos 0 ≤ℤ get_or l.indices j (pos 0)) × (get_or l.indices j (pos 0) <ℤ pos (length l.fn.out));
  claimed : HoldsClaims l.place l.indices l.out;
  beside : IsKept l.indices l.place l.fn.out l.out;
}
