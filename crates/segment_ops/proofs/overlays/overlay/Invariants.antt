use Rattle.std.proofs.Common.{◌≡◌, ◌+◌, ◌++◌, ◌||◌, false, length, take, drop, zip}
use Rattle.std.specs.List.{list_any, flat_map}
use Rattle.vcode_base.specs.Segments.{total, segments, sizes, any_outside, has_twice, scatter_of}
use Rattle.segment_ops.proofs.overlays.overlay.Given as goal

abbrev pub invariant-loop-segment : goal.invariant-loop-segment
invariant-loop-segment l = record {
  left : l.begin + total (drop l.segment l.source) ≡ length l.elements;
  target_left : l.target_begin + total (drop l.segment l.target) ≡ length l.fn.out;
  inside : any_outside (sizes l.target) (segments l.source l.indices)
      ≡ any_outside (sizes (drop l.segment l.target)) (segments (drop l.segment l.source) (drop l.begin l.indices));
  twice : list_any has_twice (segments l.source l.indices)
      ≡ (l.twice || list_any has_twice (segments (drop l.segment l.source) (drop l.begin l.indices)));
  kept : drop l.target_begin l.out ≡ drop l.target_begin l.fn.out;
  written : l.twice ≡ false → flat_map (λ (v, p). scatter_of v p.0 p.1)
      (zip (segments l.source l.elements) (zip (segments l.source l.indices) (segments l.target l.fn.out)))
      ≡ take l.target_begin l.out ++ flat_map (λ (v, p). scatter_of v p.0 p.1)
      (zip (segments (drop l.segment l.source) (drop l.begin l.elements))
      (zip (segments (drop l.segment l.source) (drop l.begin l.indices))
      (segments (drop l.segment l.target) (drop l.target_begin l.fn.out))));
}
