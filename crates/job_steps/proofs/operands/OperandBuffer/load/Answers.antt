use Rattle.std.proofs.Common.{◌≡◌, ◌∙◌, ap, arith, length, map}
use Rattle.vcode_base.specs.Operands.{contents}
use Rattle.vcode_base.specs.Segments.{pieces_of}
use Rattle.job_steps.specs.Buffers.{OperandLists, in_a_row}
use Rattle.job_steps.proofs.OperandLemmas.{loaded, length-in_a_row, pieces_in_a_row}
use Rattle.job_steps.proofs.operands.OperandBuffer.load.Given.{Over}
use Rattle.job_steps.proofs.operands.OperandBuffer.load.Goals as goal
use Rattle.job_steps.proofs.operands.OperandBuffer.load.Goals.{After-append_in_a_row}

-- the buffer has the lists and nothing else
held : (g : Over) (c : goal.After-append_in_a_row g) → c.append_in_a_row.new.buffer.items ≡ in_a_row
    (contents c.args.lists.now)
held g c = cc

pub invariant_of-self : goal.invariant_of-self
invariant_of-self g c = grind (arith, After-append_in_a_row, held, length-in_a_row)

pub returns : goal.returns
returns g c =
    let at = (goal.at.returns g c).After-append_in_a_row in
    let lists = contents c.args.lists.now in
    let lengths = c.lengths_of-self-inside in
    loaded c.self.inside.room c.args.self.now.room lists (length c.args.lists.now) lengths.result (map length lists)
    c.append_in_a_row.new.buffer.items (ap (λ (k : OperandLists). k.room) c.self.view_is) lengths.ensures.lengths
    (ap (pieces_of (map length lists)) (held g at) ∙ pieces_in_a_row lists)
