-- What is read is the next instruction, with operands of its kinds.
use Rattle.std.proofs.Common.{refl, sym, ◌∙◌, ap}
use Rattle.vcode_base.specs.declared.op.Op.{Op}
use Rattle.job_steps.specs.Motions.{operand_count, top_entries}
use Rattle.job_steps.specs.States.{words_of}
use Rattle.job_slots.specs.InPlace.{is_constant}
use Rattle.job_slots.proofs.NextSteps.{of_op, read_on_top}
use Rattle.job_slots.proofs.next.next_at.Goals as goal

pub top_operands-requires : goal.top_operands-requires
top_operands-requires g c =
    assumption (of_op c.steps_can_begin.ensures _ c.args.blocks.now _ _ c.requires.running c.requires.verified _
    c.requires.op).2

pub returns : goal.returns
returns g c =
    let next = of_op c.steps_can_begin.ensures _ c.args.blocks.now _ _ c.requires.running c.requires.verified _
    c.requires.op in
    let known = next.2.read _ (λ stack there. c.top_operands.ensures stack there
    ∙ (ap (λ (op : Op). words_of (top_entries (operand_count op) stack)) next.1
    ∙ sym (read_on_top _ stack (sym (ap is_constant next.1) ∙ c.requires.no_list)))) in
    record { op = refl; next = known.next; kinds = known.kinds }
