use Rattle.std.proofs.Common.{◌≡◌, ◌+◌, ◌++◌, length, take, drop, map, fold}
use Rattle.vcode_base.specs.Segments.{total, segments}
use Rattle.segment_ops.proofs.reductions.ReductionOverSegments.write.Given as goal

abbrev pub invariant-loop-segment : goal.invariant-loop-segment
invariant-loop-segment g l = record {
  left : l.begin + total (drop l.segment l.descriptor) ≡ length l.elements;
  written : map (fold g.S.Combine.combination l.fn.start) (segments l.descriptor l.elements)
      ≡ take l.segment l.out ++ map (fold g.S.Combine.combination l.fn.start)
      (segments (drop l.segment l.descriptor) (drop l.begin l.elements));
}
