use Rattle.std.proofs.Common.{rules}
use Rattle.job_steps.proofs.OperandLemmas.{can_answer_in_front}
use Rattle.job_steps.proofs.filled.fill_results.Goals as goal

pub need-requires-clause-kinds : goal.need-requires-clause-kinds
need-requires-clause-kinds g c =
    let buffers = c.args.buffers.now in
    (can_answer_in_front c.args.op buffers.words _ c.count-count.result c.lists-lists.result buffers.operands.lists
    buffers.result_room c.count-count.ensures c.lists-lists.ensures c.requires).kinds

pub fill_front-requires-clause-can : goal.fill_front-requires-clause-can
fill_front-requires-clause-can g c = search (rules, can_answer_in_front)
