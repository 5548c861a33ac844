use Rattle.std.proofs.Common.{◌≡◌, take, fold}
use Rattle.segment_ops.proofs.reductions.reduce_all.Given as goal

abbrev pub invariant-loop-element : goal.invariant-loop-element
invariant-loop-element g l = l.so_far ≡ fold g.S.Combine.combination l.fn.start (take l.element-index l.elements)
