use Rattle.std.proofs.Common.{◌≡◌, ◌+◌, ◌++◌, pos, length, take, drop, map, count_by}
use Rattle.vcode_base.specs.Elements.{is_set}
use Rattle.vcode_base.specs.Meaning.{flagged_elements}
use Rattle.vcode_base.specs.Segments.{total, segments}
use Rattle.segment_ops.proofs.packs.pack.Given as goal

abbrev pub invariant-loop-segment : goal.invariant-loop-segment
invariant-loop-segment l = record {
  left : l.begin + total (drop l.segment l.descriptor) ≡ length l.flags;
  room : l.kept + count_by is_set (drop l.begin l.flags) ≡ count_by is_set l.flags;
  packed : flagged_elements l.elements l.flags
      ≡ take l.kept l.out ++ flagged_elements (drop l.begin l.elements) (drop l.begin l.flags);
  counted : map (λ bs. pos (count_by is_set bs)) (segments l.descriptor l.flags)
      ≡ take l.segment l.counts ++ map (λ bs. pos (count_by is_set bs))
      (segments (drop l.segment l.descriptor) (drop l.begin l.flags));
}
