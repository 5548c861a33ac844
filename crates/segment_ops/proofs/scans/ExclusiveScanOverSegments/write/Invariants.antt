use Rattle.std.proofs.Common.{◌≡◌, ◌+◌, ◌++◌, length, take, drop}
use Rattle.std.specs.List.{flat_map}
use Rattle.vcode_base.specs.Segments.{total, segments}
use Rattle.segment_ops.specs.Folds.{exclusive_scan}
use Rattle.segment_ops.proofs.scans.ExclusiveScanOverSegments.write.Given as goal

abbrev pub invariant-loop-segment : goal.invariant-loop-segment
invariant-loop-segment g l = record {
  left : l.begin + total (drop l.segment l.descriptor) ≡ length l.elements;
  written : flat_map (exclusive_scan g.S.Combine.combination l.fn.start) (segments l.descriptor l.elements)
      ≡ take l.begin l.out
      ++ flat_map (exclusive_scan g.S.Combine.combination l.fn.start)
      (segments (drop l.segment l.descriptor) (drop l.begin l.elements));
}
