use Rattle.std.proofs.Common.{◌≡◌, ◌≤◌, drop, fold, length}
use Rattle.segment_ops.proofs.reductions.reduce_segment.Given as goal

abbrev pub invariant-loop-i : goal.invariant-loop-i
invariant-loop-i g l = record {
  so_far : fold g.S.Combine.combination l.fn.start l.elements
      ≡ fold g.S.Combine.combination l.so_far (drop l.i l.elements);
  within : l.i ≤ length l.elements;
}
