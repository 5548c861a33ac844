use Rattle.std.proofs.Common.{sym, subst}
use Rattle.std.proofs.lemmas.Result.{on_ok_weaker}
use Rattle.job_steps.specs.declared.event.Event.TheVariants.{Begin}
use Rattle.job_machine.specs.Machines.{machine_after}
use Rattle.batch_front.specs.Turns.{IsSettledBut}
use Rattle.batch_front.proofs.Settling.{after_begin, after_finish, settled_but}
use Rattle.batch_front.proofs.follow.take_turn.Goals as goal

pub returns-in-Step-clause-others_settled : goal.returns-in-Step-clause-others_settled
returns-in-Step-clause-others_settled g c =
    let m = c.args.machine.now in
    let begun = after_begin c.others_stay.ensures c.args.job m (settled_but c.args.job m c.requires.settled) in
    let now = after_finish c.others_stay.ensures c.args.job (machine_after (Begin c.args.job) m) begun in
    subst (IsSettledBut c.args.job) (sym c.play_step.ensures.state) now

pub returns-in-Begin-clause-others_settled : goal.returns-in-Begin-clause-others_settled
returns-in-Begin-clause-others_settled g c =
    let m = c.args.machine.now in
    let now = after_begin c.others_stay.ensures c.args.job m (settled_but c.args.job m c.requires.settled) in
    on_ok_weaker c.play.result (λ e. subst (IsSettledBut c.args.job) (sym e) now) c.play.ensures.ok

pub returns-in-Finish-clause-others_settled : goal.returns-in-Finish-clause-others_settled
returns-in-Finish-clause-others_settled g c =
    let m = c.args.machine.now in
    let now = after_finish c.others_stay.ensures c.args.job m (settled_but c.args.job m c.requires.settled) in
    on_ok_weaker c.play-in-Finish.result (λ e. subst (IsSettledBut c.args.job) (sym e) now) c.play-in-Finish.ensures.ok
