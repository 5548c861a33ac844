use Rattle.std.proofs.Common.{◌≡◌, ◌-◌, ℤ, pos, length, get_or, arith, rules, FitsSigned, w64}
use Rattle.std.proofs.Common.{append_assoc, length-take, length-drop}
use Rattle.std.proofs.lemmas.Int.{to_z-of_z}
use Rattle.std.proofs.lemmas.List.{drop_more}
use Rattle.std.proofs.lemmas.Slice.{take-put_mid}
use Rattle.segment_ops.proofs.SegmentLemmas.{total_more}
use Rattle.segment_ops.proofs.distributions.index.Goals as goal

pub loop-segment-preserved : goal.loop-segment-preserved
loop-segment-preserved c =
    let i = c.loop-segment.segment in
    let first : FitsSigned w64 (get_or c.args.firsts.now i (pos 0)) = search rules in
    let stride : FitsSigned w64 (get_or c.args.strides.now i (pos 0)) = search rules in
    let total = total_more c.args.descriptor.now i c.loop-segment-test.true in
    let long : length c.progress.new.out ≡ c.end_of-end.result - c.loop-segment.begin =
    omega (arith, length-take {A = ℤ}, length-drop {A = ℤ}) in
    let made = simp (to_z-of_z, length-take, length-drop) at c.progress.ensures in
    grind (arith, append_assoc, take-put_mid, drop_more)
