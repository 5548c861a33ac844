use Rattle.std.proofs.Common.{◌≡◌, ◌<◌, ℕ, pos, get_or, take, fold}
use Rattle.segment_ops.proofs.scans.scan_segment.Given as goal

abbrev pub invariant-loop-i : goal.invariant-loop-i
invariant-loop-i g l = record {
  so_far : l.so_far ≡ fold g.S.Combine.combination l.fn.start (take l.i l.elements);
  written : (k : ℕ) → k < l.i → get_or l.out k (pos 0) ≡ fold g.S.Combine.combination l.fn.start (take k l.elements);
}
