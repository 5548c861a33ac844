-- A step with operands is the next step of the job, in place or not, or the job ends.
use Rattle.std.proofs.Common.{◌≡◌, ℤ, List, take, Some}
use Rattle.vcode_base.specs.Meaning.{value_fault}
use Rattle.vcode_base.specs.Operands.{contents}
use Rattle.job_memory.specs.JobBlocks.{own_slots}
use Rattle.job_steps.specs.States.{ruled}
use Rattle.job_steps.specs.Flows.{flow_of}
use Rattle.job_steps.specs.Tickets.{AreResults, question_by}
use Rattle.job_slots.specs.Needs.{IsReady}
use Rattle.job_slots.specs.Slots.{IsRunningSlot}
use Rattle.job_slots.proofs.NextSteps.{is_made}
use Rattle.job_slots.proofs.Standings.{runs_inside, ends_early, ends_by_fault}
use Rattle.job_slots.proofs.slot.Slot.step_as.Given.{Over}
use Rattle.job_slots.proofs.slot.Slot.step_as.Goals as goal
use Rattle.job_slots.proofs.slot.Slot.step_as.Goals.{After-of, After-next_at-next, In-Ok}

running : (g : Over) (c : After-next_at-next g) →
    IsRunningSlot (own_slots c.args.turn.number c.args.blocks.now) (ruled c.args.turn.rule c.args.job.now)
    c.self.inside.track
running g c = runs_inside _ _ _ _ _ c.self.view_is c.requires.can.shows c.requires.can.live

-- ---- the job ends before its operands' values are looked at

pub end_by_step-requires-clause-ends : goal.end_by_step-requires-clause-ends
end_by_step-requires-clause-ends g c =
    let at = goal.at.end_by_step-requires-clause-ends g c in
    rw (← c.self.view_is) (ends_early c.early_ends_end.ensures _ _ _ _ (running g at.After-next_at-next) c.in-Err.ending
    c.requires.can.shows.verified c.in-Err.ensures)

-- ---- the instruction is executed

abbrev sources : (g : Over) (c : In-Ok g) → List (List ℤ)
sources g c = contents (take c.next_at-next.result.operands.count c.next_at-next.result.operands.lists)

ready : (g : Over) (c : In-Ok g) → IsReady (ruled c.args.turn.rule c.args.job.now) c.args.turn.number c.args.blocks.now
    c.self.inside.track c.op-op.result (sources g c) c.in-Ok.needs
ready g c = rw c.next_at-next.ensures.op at c.in-Ok.ensures

flow_is : (g : Over) (c : After-of g) →
    c.of.result ≡ flow_of (question_by c.op-op.result
    (contents (take c.next_at-next.result.operands.count c.next_at-next.result.operands.lists)))
flow_is g c = rw (← c.as_slice-operands.ensures) c.of.ensures

pub fill-requires-clause-can : goal.fill-requires-clause-can
fill-requires-clause-can g c =
    let at = goal.at.fill-requires-clause-can g c in
    rw c.as_slice-operands.ensures ((ready g at.In-Ok).can_ask c.args.desk.now c.requires.enough).can

pub carry_out-requires-clause-made : goal.carry_out-requires-clause-made
carry_out-requires-clause-made g c =
    let at = goal.at.carry_out-requires-clause-made g c in
    let results : AreResults (question_by c.op-op.result (sources g at.In-Ok)) c.in-Ok-fill.first.now
    c.in-Ok-fill.second.now = rw (← c.as_slice-operands.ensures) c.in-Ok-fill.ensures.answer in
    let made = is_made c.results_have_needed_lengths.ensures _ _ _ _ _ _ _ (ready g at.In-Ok) _ _ _ results
    (flow_is g at.After-of) in
    rw (← c.self.view_is) (record { answered = made.0; counted = made.1 })

-- ---- the job ends by the values of its operands

pub end_by_fault-requires-clause-ends : goal.end_by_fault-requires-clause-ends
end_by_fault-requires-clause-ends g c =
    λ line numbered. let at = goal.at.end_by_fault-requires-clause-ends g c in
    let sources = sources g at.In-Ok in
    let op = c.op-op.result in
    let is = ready g at.In-Ok in
    let fault = c.in-Err-fill.fault in
    let faulty : value_fault op sources ≡ Some fault =
    rw (← c.as_slice-operands.ensures) c.in-Err-fill.ensures.answer in
    rw (← c.self.view_is) (ends_by_fault c.others_are_ready.ensures c.end_is_own.ensures _ _ _ _
    (running g at.After-next_at-next) (question_by op sources) _ _ c.requires.can.shows.verified is.goes_on
    is.next faulty (rw (← c.self.view_is) at numbered))
