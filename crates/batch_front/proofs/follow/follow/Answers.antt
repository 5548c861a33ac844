use Rattle.std.proofs.Common.{◌+◌, refl, arith}
use Rattle.std.proofs.lemmas.Grind.{common_steps}
use Rattle.std.proofs.lemmas.List.{take_all}
use Rattle.batch_front.specs.Turns.{settled}
use Rattle.batch_front.proofs.Settling.{none_ended_first}
use Rattle.batch_front.proofs.TurnLemmas.{workbench_fits, items_with}
use Rattle.batch_front.proofs.follow.follow.Goals as goal

pub admit_all-requires-clause-fit : goal.admit_all-requires-clause-fit
admit_all-requires-clause-fit g c =
    workbench_fits c.args.machine.now c.in_ok-workbench.workbench c.requires c.in_ok-workbench.ensures

pub admit_all-requires-clause-none_ended : goal.admit_all-requires-clause-none_ended
admit_all-requires-clause-none_ended g c = none_ended_first c.args.machine.now c.requires

pub loop-item-preserved : goal.loop-item-preserved
loop-item-preserved g c =
    grind (
      arith,
      items_with c.args.reported.now c.args.schedule.now c.loop-item.item-index (c.loop-item.item-index + 1) _
          (settled c.args.machine.now) c.loop-item.machine c.follow_item.new.machine refl c.loop-item-test.true
          c.loop-item.invariant.state c.in_ok-follow_item.ensures.state,
    )

pub returns-clause-state : goal.returns-clause-state
returns-clause-state g c =
    grind (arith, take_all c.loop-item.item-index c.args.schedule.now (grind (arith, common_steps)))
