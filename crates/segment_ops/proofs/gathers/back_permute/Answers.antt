use Rattle.std.proofs.Common.{◌<◌, ◌≤◌, length, arith, append_assoc, length-take, length-drop}
use Rattle.std.proofs.lemmas.Slice.{take-put_mid}
use Rattle.segment_ops.proofs.SegmentLemmas.{total_more, parts_more, outside_more}
use Rattle.segment_ops.proofs.gathers.back_permute.Goals as goal

pub loop-segment-preserved : goal.loop-segment-preserved
loop-segment-preserved c =
    let here = c.loop-segment-test.true in
    let there : c.loop-segment.segment < length c.args.target.now = omega arith in
    let room : c.end_of-end.result ≤ length c.args.elements.now = grind (arith, total_more) in
    let elements = parts_more c.args.source.now c.args.elements.now _ here c.end_of-end.ensures in
    let indices = parts_more c.args.target.now c.args.indices.now _ there c.end_of-target_end.ensures in
    let inside = outside_more _ _ c.args.elements.now c.args.indices.now _ _ here c.end_of-end.ensures room there
    c.end_of-target_end.ensures in
    grind (arith, append_assoc, take-put_mid, length-take, length-drop, total_more)
