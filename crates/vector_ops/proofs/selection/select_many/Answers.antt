use Rattle.std.proofs.Common.{arith, ℤ, pos, if◌then◌else◌}
use Rattle.std.specs.List.{zip}
use Rattle.std.proofs.lemmas.Slice.Zip.{get_or-zip}
use Rattle.vcode_base.specs.Elements.{is_set}
use Rattle.vector_ops.proofs.Lists.{pairs_more, places}
use Rattle.vector_ops.proofs.selection.select_many.Goals as goal

pub loop-i-preserved : goal.loop-i-preserved
loop-i-preserved c =
    let others = zip c.args.chosen.now c.args.other.now in
    let there = get_or-zip c.args.chosen.now c.args.other.now c.loop-i.i (pos 0, pos 0) in
    let choice = λ (p : ℤ × (ℤ × ℤ)). if is_set p.0 then p.1.0 else p.1.1 in
    grind (arith, places, there, pairs_more c.args.flags.now others choice c.loop-i.i (pos 0, (pos 0, pos 0)))
