use Rattle.std.proofs.Common.{arith}
use Rattle.vcode_base.proofs.KindTests.{Decides-descriptor}
use Rattle.segment_ops.proofs.descriptors.make_descriptor.Goals as goal

pub returns-then-copy_lengths : goal.returns-then-copy_lengths
returns-then-copy_lengths c = let kind = Decides-descriptor c.args.lengths.now in grind (arith, kind)
