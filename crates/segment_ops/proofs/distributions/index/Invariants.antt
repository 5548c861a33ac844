use Rattle.std.proofs.Common.{◌≡◌, ◌+◌, ◌++◌, length, take, drop, zip}
use Rattle.std.specs.List.{flat_map}
use Rattle.vcode_base.specs.Segments.{total, sizes, progression}
use Rattle.segment_ops.proofs.distributions.index.Given as goal

abbrev pub invariant-loop-segment : goal.invariant-loop-segment
invariant-loop-segment l = record {
  left : l.begin + total (drop l.segment l.descriptor) ≡ length l.fn.out;
  written : flat_map (λ (n, p). progression n p.0 p.1) (zip (sizes l.descriptor) (zip l.firsts l.strides))
      ≡ take l.begin l.out
      ++ flat_map (λ (n, p). progression n p.0 p.1) (zip (sizes (drop l.segment l.descriptor))
      (zip (drop l.segment l.firsts) (drop l.segment l.strides)));
}
