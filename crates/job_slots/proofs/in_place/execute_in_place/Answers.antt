-- An instruction is executed by computing its results from the blocks of its operands.
use Rattle.std.proofs.Common.{◌≡◌, ◌+◌, ℕ, length, refl, sym, ap, arith}
use Rattle.std.proofs.lemmas.List.{reverse-reverse}
use Rattle.vcode_base.specs.declared.rule.Rule.TheVariants.{Second}
use Rattle.job_memory.specs.JobBlocks.{held_words}
use Rattle.job_steps.specs.declared.flow.Flow.TheVariants.{Next}
use Rattle.job_steps.specs.States.{ruled}
use Rattle.job_steps.specs.Tickets.{AreResults, question_by}
use Rattle.job_slots.specs.Commits.{held_under, taken_ids}
use Rattle.job_slots.specs.Executions.{CanExecute, HasExchanged, IsExecuted, ids_in}
use Rattle.job_slots.specs.InPlace.{operands_in}
use Rattle.job_slots.proofs.Executed.{executed_past}
use Rattle.job_slots.proofs.InPlace.{computed_long, goes_next}
use Rattle.job_slots.proofs.in_place.execute_in_place.Given.{Over}
use Rattle.job_slots.proofs.in_place.execute_in_place.Goals as goal
use Rattle.job_slots.proofs.in_place.execute_in_place.Goals.{After-top-operands, After-advance, In-Ok}

operands_are : (g : Over) (c : goal.After-top-operands g) →
    c.top-operands.result.now ≡ taken_ids c.args.due.placement.op c.args.track.now.cells
operands_are g c = grind (arith, reverse-reverse)

-- the results of the operands that the cells name
results : (g : Over) (c : In-Ok g) → AreResults
    (question_by c.args.due.placement.op (operands_in c.args.blocks.now c.args.due.placement.op c.args.track.now.cells))
    c.in-Ok.ensures.computed.first c.in-Ok.ensures.computed.second
results g c = rw (operands_are g (goal.at.In-Ok g c).After-top-operands) at c.in-Ok.ensures.computed.results

can : (g : Over) (c : In-Ok g) → CanExecute c.args.due.turn.number c.args.blocks.now
    (ruled c.args.due.turn.rule c.args.job.now) c.args.track.now c.args.due.placement.op Next
    c.in-Ok.ensures.computed.first c.in-Ok.ensures.computed.second
can g c =
    let p = c.args.due.placement in
    c.steps_execute.ensures _ _ _ _ _ _ _ _ c.requires.flying c.requires.verified c.used-used.ensures.tidy (record {
      question = question_by p.op (operands_in c.args.blocks.now p.op c.args.track.now.cells);
      asked = c.requires.placeable.question;
      op_is = refl;
      flow_is = goes_next p.op p.second c.requires.placeable.count _;
      results = results g c;
    })

exchanged : (g : Over) (c : In-Ok g) → HasExchanged Second c.args.due.turn.number c.args.due.placement.op
    c.in-Ok.ensures.computed.first c.in-Ok.ensures.computed.second c.args.track.now.cells (ids_in c.in-Ok.results)
    c.args.blocks.now c.compute.new.blocks
exchanged g c =
    c.in-Ok.ensures.computed.exchanged c.args.track.now.cells
    (sym (operands_are g (goal.at.In-Ok g c).After-top-operands))

pub advance-requires : goal.advance-requires
advance-requires g c =
    let at = (goal.at.advance-requires g c).In-Ok in
    let past = (can g at).goes_past in
    let flows = (can g at).flows in
    let given = (exchanged g at).given in
    grind arith

executed : (g : Over) (c : goal.After-advance g) → IsExecuted c.args.due.turn.number c.args.blocks.now
    c.compute.new.blocks (ruled c.args.due.turn.rule c.args.job.now) c.args.track.now c.advance.new.self
executed g c =
    let at = (goal.at.After-advance g c).In-Ok in
    let p = c.args.due.placement in
    let here = c.in-Ok.ensures.computed in
    let old : ℕ = held_words c.args.due.turn.number c.args.blocks.now in
    let all : ℕ = held_under c.args.due.turn.rule c.args.due.turn.number p.op c.args.track.now.cells c.args.blocks.now +
    length here.first + length here.second in
    let long = computed_long c.results_have_needed_lengths.ensures p.op _ _ c.requires.placeable.can here.first
    here.second (results g at) in
    let before : c.held-held.result + p.first + p.second ≡ old + length here.first + length here.second =
    omega (arith, ap (λ (n : ℕ × ℕ). n.0) long, ap (λ (n : ℕ × ℕ). n.1) long) in
    let taken = operands_are g (goal.at.In-Ok g at).After-top-operands in
    let words : c.words_by-words.result ≡ all =
    rw (c.words_by-words.ensures, before, c.held.ensures.value, ← taken) here.counted in
    executed_past (can g at) (exchanged g at) refl (rw (c.as_slice.ensures, words) at c.advance.ensures.advances)

pub returns-in-Ok-clause-after : goal.returns-in-Ok-clause-after
returns-in-Ok-clause-after g c = (executed g (goal.at.returns-in-Ok-clause-after g c).After-advance).after

pub returns-in-Ok-clause-others : goal.returns-in-Ok-clause-others
returns-in-Ok-clause-others g c = (executed g (goal.at.returns-in-Ok-clause-others g c).After-advance).others
