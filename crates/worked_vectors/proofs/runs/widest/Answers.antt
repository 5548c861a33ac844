use Rattle.worked_vectors.proofs.Widths.{one_more}
use Rattle.worked_vectors.proofs.runs.widest.Goals as goal

pub loop-operand-preserved : goal.loop-operand-preserved
loop-operand-preserved c =
    one_more c.loop-operand.operand-index c.loop-operand.most c.max-most.result c.args.ops.now _
    c.loop-operand-test.true c.loop-operand.invariant c.max-most.ensures
