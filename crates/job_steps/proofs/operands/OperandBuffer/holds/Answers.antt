use Rattle.job_steps.proofs.OperandLemmas.{contents_in_front, same_lists}
use Rattle.job_steps.proofs.operands.OperandBuffer.holds.Goals as goal

pub returns : goal.returns
returns g c =
    same_lists c.eq.result _ c.args.lists.now c.args.self.now.lists
    (contents_in_front c.count.result c.lists-held.result c.args.self.now.lists c.count.ensures c.lists-held.ensures)
    c.eq.ensures
