use Rattle.std.proofs.Common.{◌≡◌, ◌+◌, ◌++◌, length, take, drop, zip, unsigned_abs, slice_set}
use Rattle.std.specs.List.{list_any, flat_map}
use Rattle.vcode_base.specs.Elements.{is_outside}
use Rattle.vcode_base.specs.Segments.{total, segments, sizes}
use Rattle.segment_ops.proofs.replacements.replace.Given as goal

abbrev pub invariant-loop-segment : goal.invariant-loop-segment
invariant-loop-segment l = record {
  left : l.begin + total (drop l.segment l.descriptor) ≡ length l.elements;
  outside : list_any (λ (n, i). is_outside n i) (zip (sizes l.descriptor) l.indices)
      ≡ list_any (λ (n, i). is_outside n i) (zip (sizes (drop l.segment l.descriptor)) (drop l.segment l.indices));
  kept : drop l.begin l.out ≡ drop l.begin l.elements;
  written : flat_map (λ (v, p). slice_set v (unsigned_abs p.0) p.1)
      (zip (segments l.descriptor l.elements) (zip l.indices l.replacements))
      ≡ take l.begin l.out
      ++ flat_map (λ (v, p). slice_set v (unsigned_abs p.0) p.1)
      (zip (segments (drop l.segment l.descriptor) (drop l.begin l.elements))
      (zip (drop l.segment l.indices) (drop l.segment l.replacements)));
}
