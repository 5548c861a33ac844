use Rattle.std.proofs.Common.{arith}
use Rattle.std.proofs.lemmas.Bool.Decides.{nat_tests}
use Rattle.refcounts.proofs.Freed.{turn_freed}
use Rattle.refcounts.proofs.SharedMemory.used_without.Goals as goal

pub overflow_sub-used : goal.overflow_sub-used
overflow_sub-used g c =
    let freed =
    turn_freed c.args.self.now c.args.ids.now c.loop-index.index c.index-ids-index.result c.loop-index-test.true
    c.index-ids-index.is c.requires in grind (arith, nat_tests)

pub loop-index-preserved : goal.loop-index-preserved
loop-index-preserved g c =
    let freed =
    turn_freed c.args.self.now c.args.ids.now c.loop-index.index c.index-ids-index.result c.loop-index-test.true
    c.index-ids-index.is c.requires in grind (arith, nat_tests)
