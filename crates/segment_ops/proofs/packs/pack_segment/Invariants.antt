use Rattle.std.proofs.Common.{◌≡◌, ◌+◌, ◌++◌, take, drop, count_by}
use Rattle.vcode_base.specs.Elements.{is_set}
use Rattle.vcode_base.specs.Meaning.{flagged_elements}
use Rattle.segment_ops.proofs.packs.pack_segment.Given as goal

abbrev pub invariant-loop-place : goal.invariant-loop-place
invariant-loop-place l = record {
  count : l.kept + count_by is_set (drop l.place l.flags) ≡ count_by is_set l.flags;
  written : flagged_elements l.elements l.flags
      ≡ take l.kept l.out ++ flagged_elements (drop l.place l.elements) (drop l.place l.flags);
}
