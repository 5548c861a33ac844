use Rattle.std.proofs.Common.{◌≡◌, sym, subst, IfOk}
use Rattle.job_history.specs.declared.goal.Found.TheVariants.{Here}
use Rattle.dap_session.specs.Ways.{HasGone}
use Rattle.dap_session.proofs.way.gone.Goals as goal

pub returns-in_ok-forward-in-Forward : goal.returns-in_ok-forward-in-Forward
returns-in_ok-forward-in-Forward c =
    subst (λ way. HasGone way c.args.history c.in_ok-forward-in-Forward.field-0 Here) (sym c.in-Forward.is)
    c.in_ok-forward-in-Forward.ensures

pub returns-in_ok-back-in-Back : goal.returns-in_ok-back-in-Back
returns-in_ok-back-in-Back c =
    subst (λ way. HasGone way c.args.history c.in_ok-back-in-Back.field-0 Here) (sym c.in-Back.is)
    c.in_ok-back-in-Back.ensures

pub returns-in-Next : goal.returns-in-Next
returns-in-Next c =
    subst (λ way. IfOk c.find_next.result (λ gone. HasGone way c.args.history gone.0 gone.1)) (sym c.in-Next.is)
    c.find_next.ensures

pub returns-in-Before : goal.returns-in-Before
returns-in-Before c =
    subst (λ way. IfOk c.find_before.result (λ gone. HasGone way c.args.history gone.0 gone.1)) (sym c.in-Before.is)
    c.find_before.ensures
