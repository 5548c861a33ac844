use Rattle.std.proofs.Common.{◌∙◌, sym, subst, arith}
use Rattle.job_steps.specs.Standings.{of_job}
use Rattle.batch_front.specs.Turns.{NoneEnded}
use Rattle.batch_front.proofs.Settling.{ended_is, has_collected, settled_by, settled_same}
use Rattle.batch_front.proofs.follow.settle.Goals as goal

pub returns-then-not-has_ended : goal.returns-then-not-has_ended
returns-then-not-has_ended g c =
    let m = c.args.machine.now in
    let rests = sym c.has_ended.ensures ∙ c.if-not-has_ended.true in
    let now = settled_by c.args.job m c.requires.others_settled rests in
    grind (arith, settled_same c.closed_change_nothing.ensures m now)

pub admit_all-requires-clause-none_ended : goal.admit_all-requires-clause-none_ended
admit_all-requires-clause-none_ended g c =
    let m = c.args.machine.now in
    let over = ended_is (of_job c.args.job m.standings) (sym c.has_ended.ensures ∙ c.if-not-has_ended.false) in
    subst NoneEnded (sym c.in_ok-play.ensures.ok)
    (has_collected c.closed_change_nothing.ensures c.others_stay.ensures c.events_change_their_job.ensures c.args.job m
    c.jobs-jobs.ensures.kept.same_length c.requires.others_settled over).none_ended

pub returns : goal.returns
returns g c =
    grind (
      arith,
      ended_is,
      has_collected c.closed_change_nothing.ensures c.others_stay.ensures c.events_change_their_job.ensures c.args.job
          c.args.machine.now c.jobs-jobs.ensures.kept.same_length c.requires.others_settled,
    )
