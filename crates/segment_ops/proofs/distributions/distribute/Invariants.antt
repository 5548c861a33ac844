use Rattle.std.proofs.Common.{◌≡◌, ◌+◌, ◌++◌, length, take, drop, zip, replicate}
use Rattle.std.specs.List.{flat_map}
use Rattle.vcode_base.specs.Segments.{total, sizes}
use Rattle.segment_ops.proofs.distributions.distribute.Given as goal

abbrev pub invariant-loop-segment : goal.invariant-loop-segment
invariant-loop-segment l = record {
  left : l.begin + total (drop l.segment l.descriptor) ≡ length l.fn.out;
  written : flat_map (λ (n, x). replicate n x) (zip (sizes l.descriptor) l.elements)
      ≡ take l.begin l.out ++ flat_map (λ (n, x). replicate n x)
      (zip (sizes (drop l.segment l.descriptor)) (drop l.segment l.elements));
}
