use Rattle.std.proofs.Common.{◌+◌, ◌≡◌, length, replicate, ap, ◌∙◌, arith, map}
use Rattle.refcounts.specs.SharedState.{SharedState}
use Rattle.job_steps.specs.States.{ruled}
use Rattle.job_machine.proofs.FirstSlots.{first_is_sound, all_wait, no_passes}
use Rattle.job_machine.proofs.machine.Machine.new.Goals as goal

pub invariant_of-result : goal.invariant_of-result
invariant_of-result g c =
    let count : c.len.result ≡ length c.args.jobs.items = omega (arith, c.len.ensures, c.args.jobs.ok) in
    let same : c.len-2.result ≡ c.len.result = omega (arith, c.len.ensures, c.len-2.ensures) in
    let cells = rw c.as_slice-2.ensures.value at c.all_cells-most_blocks.ensures.cells in
    let new = rw c.as_slice.ensures.value at c.in_ok-slots.ensures.new in
    rw (c.in_ok-jobs.ensures.ok, c.in_ok-passes.ensures.items_if_clones_equal (λ y e. e), same) (first_is_sound
    c.new_is_shown.ensures c.args.rule _ _ (c.all_cells-most_blocks.result + 2) c.len.result _ _
    c.in_ok-blocks.ensures.memory c.in_ok-blocks.ensures.grants count (omega (arith, cells))
    (c.in_ok-slots.ensures.count ∙ ap length c.as_slice.ensures.value) c.requires.jobs c.requires.region.0
    c.requires.region.1 c.requires.words new)

pub returns : goal.returns
returns g c =
    let jobs = c.args.jobs.items in
    let room = ap (λ (memory : SharedState). memory.room) c.in_ok-blocks.ensures.memory in
    let items = ap (λ v. map (ruled c.args.rule) v.items) c.in_ok-jobs.ensures.ok in
    let count : c.len-2.result ≡ length jobs = omega (arith, c.len-2.ensures, c.args.jobs.ok) in
    let passes = c.in_ok-passes.ensures.items_if_clones_equal (λ y e. e) ∙ ap (λ n. replicate n 0) count ∙ no_passes
    c.args.rule jobs in
    let waits = all_wait c.args.rule jobs _ (c.in_ok-slots.ensures.count ∙ ap length c.as_slice.ensures.value)
    (rw c.as_slice.ensures.value at c.in_ok-slots.ensures.new) in
    λ i. record { rule = c.args.rule; region = room i; tasks = items i; standings = waits i; passes = passes i }
