use Rattle.std.proofs.Common.{◌≡◌, ◌≤◌, length, drop}
use Rattle.kind_list.specs.Packed.{packed}
use Rattle.kind_list.proofs.chunk.packed_many.Given as goal

abbrev pub invariant-loop-place : goal.invariant-loop-place
invariant-loop-place l = record { within : l.place ≤ length l.kinds; is : l.digits ≡ packed (drop l.place l.kinds) }

abbrev pub decreases-loop-place : goal.decreases-loop-place
decreases-loop-place l = l.place
