use Rattle.std.proofs.Common.{refl, arith}
use Rattle.batch_front.proofs.Settling.{has_settled}
use Rattle.batch_front.proofs.TurnLemmas.{admissions_with}
use Rattle.batch_front.proofs.follow.admit_all.Goals as goal

pub loop-preserved : goal.loop-preserved
loop-preserved g c =
    grind (
      arith,
      admissions_with c.loop.counter _ c.args.machine.now c.loop.machine c.play.new.self refl c.loop.invariant.state
          c.in_ok-play.ensures.ok,
    )

pub returns : goal.returns
returns g c =
    grind (
      arith,
      has_settled c.closed_change_nothing.ensures c.admitted_have_room.ensures c.events_change_their_job.ensures
          c.args.machine.now c.loop.machine c.jobs-jobs.ensures.kept.same_length c.requires.none_ended,
    )
