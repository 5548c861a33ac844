use Rattle.job_slots.proofs.NextSteps.{of_line}
use Rattle.job_slots.proofs.next.read_next.Goals as goal

pub operands_of-requires : goal.operands_of-requires
operands_of-requires g c =
    assumption (of_line c.steps_can_begin.ensures _ c.args.blocks.now _ _ c.requires.running c.requires.verified
    c.next_line-line.result _ c.next_line-line.ensures c.op_of-op.ensures)

pub returns : goal.returns
returns g c =
    let read = of_line c.steps_can_begin.ensures _ c.args.blocks.now _ _ c.requires.running c.requires.verified
    c.next_line-line.result _ c.next_line-line.ensures c.op_of-op.ensures in
    assumption (read.read _ c.operands_of.ensures.sources)
