use Rattle.std.proofs.Common.{arith, append_assoc, length-take, length-drop}
use Rattle.std.proofs.lemmas.Grind.{common_steps}
use Rattle.std.proofs.lemmas.Int.{to_z_pos}
use Rattle.segment_ops.proofs.SegmentLemmas.{total_more, front_put}
use Rattle.segment_ops.proofs.PackLemmas.{packed_part, count_part}
use Rattle.segment_ops.proofs.packs.pack.Goals as goal

pub loop-segment-preserved : goal.loop-segment-preserved
loop-segment-preserved c = record {
  left = grind (arith, total_more);
  room = grind (arith, count_part);
  packed = grind (arith, append_assoc, packed_part, count_part, front_put, length-take, length-drop);
  counted = grind (arith, common_steps, to_z_pos);
}
