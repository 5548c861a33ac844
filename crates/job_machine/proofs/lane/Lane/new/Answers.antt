use Rattle.std.proofs.Common.{◌≡◌, ◌≤◌, length, ap, ◌∙◌, arith}
use Rattle.std.specs.Arc.{arc_value}
use Rattle.std.proofs.lemmas.Grind.{common_steps}
use Rattle.std.proofs.lemmas.List.{length-replicate}
use Rattle.refcounts.specs.SharedState.{empty_slot}
use Rattle.job_machine.proofs.LaneLemmas.{first_vacant, tasks_fit}
use Rattle.job_machine.proofs.lane.Lane.new.Goals as goal

pub invariant_of-result : goal.invariant_of-result
invariant_of-result g c =
    let jobs = (arc_value c.args.jobs).items in
    let blocks = c.in_ok-blocks.blocks in
    let read = c.as_slice.ensures.value ∙ ap (λ v. v.items) c.deref.ensures in
    let each = rw read at c.most_words-words.ensures.each in
    let room : blocks.memory.room ≡ c.max.result = ap (λ memory. memory.room) c.in_ok-blocks.ensures.memory in
    let fits : c.most_words-words.result ≤ c.max.result = grind (arith, common_steps) in
    record {
      vacant = first_vacant blocks _ _ c.in_ok-blocks.ensures.memory c.in_ok-blocks.ensures.grants;
      numbers =
          ap (λ memory. length memory.slots) c.in_ok-blocks.ensures.memory
          ∙ length-replicate c.most_numbers.result empty_slot ∙ c.most_numbers.ensures;
      room = tasks_fit c.args.rule jobs _ blocks.memory.room each (omega (arith, room, fits));
      enough = tasks_fit c.args.rule jobs _ c.in_ok-desk.desk each (omega (arith, c.in_ok-desk.ensures));
    }
