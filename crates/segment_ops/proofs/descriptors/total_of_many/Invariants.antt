use Rattle.std.proofs.Common.{◌≡◌, take}
use Rattle.vcode_base.specs.Segments.{total}
use Rattle.segment_ops.proofs.descriptors.total_of_many.Given as goal

abbrev pub invariant-loop-size : goal.invariant-loop-size
invariant-loop-size l = l.sum ≡ total (take l.size-index l.descriptor)
