use Rattle.std.proofs.Common.{w64}
use Rattle.std.proofs.lemmas.Int.{to_z-of_z}
use Rattle.vector_ops.proofs.Masks.{chosen}
use Rattle.vector_ops.proofs.selection.choose.Goals as goal

pub returns : goal.returns
returns c =
    rw (to_z-of_z w64 c.args.flag c.ranges.flag)
    (chosen c.args.flag c.args.on_true c.args.on_false c.requires c.ranges.on_true c.ranges.on_false)
