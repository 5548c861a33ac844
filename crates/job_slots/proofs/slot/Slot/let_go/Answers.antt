use Rattle.std.proofs.Common.{arith}
use Rattle.job_slots.proofs.Cells.{HasLetGo, own_released, has_let_go}
use Rattle.job_slots.proofs.slot.Slot.let_go.Given.{Over}
use Rattle.job_slots.proofs.slot.Slot.let_go.Goals as goal
use Rattle.job_slots.proofs.slot.Slot.let_go.Goals.{After-used-used}

pub release_all-requires-clause-own : goal.release_all-requires-clause-own
release_all-requires-clause-own g c =
    let own = own_released c.args.number c.args.blocks.now c.self.inside.track.cells c.cells.result.now
    (rw (← c.self.view_is) at c.requires.holds) c.cells.ensures in
    λ id. omega (arith, own id)

lets_go : (g : Over) (c : goal.After-used-used g) → HasLetGo c.args.number c.args.blocks.now c.release_all.new.self
lets_go g c =
    has_let_go c.releases_are_counted.ensures c.releases_keep_blocks.ensures c.releases_change_only_their_job.ensures
    c.args.number c.args.blocks.now c.release_all.new.self c.self.inside.track.cells c.cells.result.now
    (rw (← c.self.view_is) at c.requires.holds) c.cells.ensures c.release_all.ensures c.used-used.ensures.tidy

pub returns-clause-nothing : goal.returns-clause-nothing
returns-clause-nothing g c = (lets_go g (goal.at.returns-clause-nothing g c).After-used-used).nothing

pub returns-clause-others : goal.returns-clause-others
returns-clause-others g c = (lets_go g (goal.at.returns-clause-others g c).After-used-used).others
