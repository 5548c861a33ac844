use Rattle.std.proofs.Common.{◌≡◌, ◌+◌, ◌++◌, length, take, drop, zip, map}
use Rattle.std.specs.List.{flat_map}
use Rattle.vcode_base.specs.Segments.{total, segments, sizes, any_outside, element}
use Rattle.segment_ops.proofs.gathers.back_permute.Given as goal

abbrev pub invariant-loop-segment : goal.invariant-loop-segment
invariant-loop-segment l = record {
  left : l.begin + total (drop l.segment l.source) ≡ length l.elements;
  target_left : l.target_begin + total (drop l.segment l.target) ≡ length l.indices;
  inside : any_outside (sizes l.source) (segments l.target l.indices)
      ≡ any_outside (sizes (drop l.segment l.source)) (segments (drop l.segment l.target)
      (drop l.target_begin l.indices));
  written : flat_map (λ (v, is). map (element v) is) (zip (segments l.source l.elements)
      (segments l.target l.indices))
      ≡ take l.target_begin l.out
      ++ flat_map (λ (v, is). map (element v) is)
      (zip (segments (drop l.segment l.source) (drop l.begin l.elements))
      (segments (drop l.segment l.target) (drop l.target_begin l.indices)));
}
