use Rattle.std.proofs.Common.{◌≡◌}
use Rattle.job_memory.specs.JobBlocks.{ChangesOnlyOf}
use Rattle.job_slots.specs.Slots.{standing_of}
use Rattle.job_steps.specs.Standings.{Collected}
use Rattle.job_steps.specs.States.{ruled}
use Rattle.job_machine.proofs.LaneLemmas.{collected_by, end_by, has_ended, vacant_after}
use Rattle.job_machine.proofs.lane.run_apart.Given.{Over}
use Rattle.job_machine.proofs.lane.run_apart.Goals as goal
use Rattle.job_machine.proofs.lane.run_apart.Goals.{In_ok-collect}

-- the job is collected
collected : (g : Over) (c : In_ok-collect g) → standing_of c.collect.new.self ≡ Collected
collected g c =
    let task = ruled c.args.rule c.args.job.now in
    let slot = c.run_slot.new.slot in
    collected_by 1 task (standing_of slot) _ (has_ended 1 task _ (standing_of slot) c.run_slot.ensures.ran
    c.in-Ok.ensures.admitted c.run_slot.ensures.over) c.in_ok-collect.ensures.standing

-- and nothing changed that isn't its own
changes : (g : Over) (c : In_ok-collect g) → ChangesOnlyOf 1 c.args.blocks.now c.collect.new.blocks
changes g c =
    let join = c.changes_join.ensures 1 in
    join.both _ _ _ (join.both _ _ _ c.admit.ensures.others c.run_slot.ensures.others) c.collect.ensures.others

pub returns-clause-end : goal.returns-clause-end
returns-clause-end g c =
    end_by 1 _ _ _ c.collect.ensures.shows (collected g (goal.at.returns-clause-end g c).In_ok-collect)

pub returns-clause-vacant : goal.returns-clause-vacant
returns-clause-vacant g c =
    let at = (goal.at.returns-clause-vacant g c).In_ok-collect in
    vacant_after _ _ _ _ c.requires.vacant (changes g at) c.collect.ensures.shows (collected g at)
