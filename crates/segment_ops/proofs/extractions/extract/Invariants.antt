use Rattle.std.proofs.Common.{◌≡◌, ◌+◌, ◌++◌, length, take, drop, zip, map}
use Rattle.std.specs.List.{list_any}
use Rattle.vcode_base.specs.Elements.{is_outside}
use Rattle.vcode_base.specs.Segments.{total, segments, sizes, element}
use Rattle.segment_ops.proofs.extractions.extract.Given as goal

abbrev pub invariant-loop-segment : goal.invariant-loop-segment
invariant-loop-segment l = record {
  left : l.begin + total (drop l.segment l.descriptor) ≡ length l.elements;
  outside : list_any (λ (n, i). is_outside n i) (zip (sizes l.descriptor) l.indices)
      ≡ list_any (λ (n, i). is_outside n i) (zip (sizes (drop l.segment l.descriptor)) (drop l.segment l.indices));
  written : map (λ (v, i). element v i) (zip (segments l.descriptor l.elements) l.indices)
      ≡ take l.segment l.out
      ++ map (λ (v, i). element v i) (zip (segments (drop l.segment l.descriptor) (drop l.begin l.elements))
      (drop l.segment l.indices));
}
